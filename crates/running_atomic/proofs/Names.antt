-- What the proofs of this crate read: lemmas of others, and definitions.
pub use Rattle.running_model.proofs.Over.{is_over}
pub use Rattle.std.proofs.Common.{get_or, rules, ◌*◌}
pub use Rattle.std.proofs.lemmas.Int.{to_z-of_z}
pub use Rattle.running_atomic.specs.declared.pass.AtomicPass.{AtomicPass}
pub use Rattle.running_atomic.specs.AtomicRule.{each_once, history_of_run, register_of, value_of, act_in, acts_in, history_in, written, IsWritten, known, data_in, held_after, stored, more, heard_after, tally_after, lock_sights, IsRegister, data_of}
pub use Rattle.running_atomic.specs.AtomicShown.{part_of_atomic, history_of, HasActed, HasJoined, IsLastOf, pass_in, parties_in, HasGot, HasActedAt, HasTaken, HasCompared, IsStill, IsHolding, opening_of}
pub use Rattle.running_atomic.specs.Additions.{acts_in_all, AreAdditions, HasAdded, after_adding}
pub use Rattle.running_atomic.specs.Names.{tally_of, word_in, atomic_table, counts_of, Free, not, MatchBool, HoldKind, Word, Call, Act, Event, Intent, AtomicPlace, carried_out, View, looked, view_of, view, Pass, Coming, Going, MayStep, IsShare, Acted, Learned, parties_of, counted, counted_in, Held, Reading, Writing, both_held, Locks, update, ends_at_look, acts_of_run, register_after, answer_to, After, IsValue, CallValues, look_at, puts, inside, compares, knows, Slot, Parties, Beginning, Choosing, ComesBy, Leads, HasEnded, HasCalled, Went, IsSamePass, joined_view, none_played, both_played, core_played, played_add_up, AllHold, IsPlayed, key_of, w128, i128_arithmetic, w64, i64_arithmetic, u64_arithmetic, ◌≡◌, ℕ, sym, subst, ◌+◌, ◌-◌, ◌%◌, ◌^◌, ◌<◌, Bool, true, false, List, [], ◌∷◌, ◌++◌, refl, ap, ◌∙◌, arith, None, ◌≢◌, ◌≤◌, cond, Option, Some, length, zero, suc, eqb-true, eqb-false, nat_tests, register_by_acts, IsWhole, one_more, both_counts, Answer, Arithmetic, u128_arithmetic, RegisterAct, plain, value_after, after_acts, AtomicTally, Content, AtomicAct, Heard}
pub use Rattle.running_passes.specs.Objects.{HaveClosed}
pub use Rattle.running_atomic.specs.AtomicParties.{StandsAtRun, IsAtHigh, IsAtLook, ComesAgain, IsAtPutHigh, Writes, IsNext, Reads, Knows, Puts, ComesToPut, MayPut, HasPut}
pub use Rattle.running_atomic.specs.AtomicSteps.{AtomicRules, IsLast, PlayedAtomic, StartsWith, EntersRead, EntersWrite, Leaves, IfHeld, ReadsLow, ReadsHigh, EndsLoad, IfWriting, StoresLow, EndsStore, EndsUnchanged, Settles, Acts, ActsAt, IsReading, IsSettled, IsWriting, IsOn, IsRight, IsStoring, ComparesHigh, IsComparing, Joins, OneHistory}
pub use Rattle.running_atomic.specs.HistoryKeeps.{seen_known, begins, marks_in, grows_own, acts_append, acts_length, each_act, absorbs_first}
pub use Rattle.running_atomic.specs.History.{content, heard, both_heard, atomic_tally, both_tallies, known_tally, heard_adds_up, same_content, no_acts, tallies_add_up}
pub use Rattle.running_atomic.specs.AtomicModel.{atomic_model, atomic_names}
pub use Rattle.running_atomic.specs.LockKeeps.{no_writer}
pub use Rattle.running_passes.proofs.Sums.{others, sum_at}
