-- The lemmas of others that this crate cites.
pub use Rattle.std.proofs.Common.{◌≡◌, ℕ, List, [], ◌∷◌, Option, Some, None, arith, ◌+◌, ◌-◌, ◌^◌, ◌<◌, ◌≤◌, ◌==◌, refl, sym, ◌∙◌, subst, Bool, true, false, cond, is_some, ◌⊎◌, ◌↔◌, ◌≢◌, ◌%◌, ap, length, inl, inr}
pub use Rattle.std.proofs.lemmas.Bool.{eqb-false, eqb-true}
pub use Rattle.std.proofs.lemmas.Bool.Decides.{nat_tests}
pub use Rattle.model_events.proofs.Exports.{waits_first, waits_as, spins_no_more, refused_asks, both_kept, IsKept, at_place, tells_memory, by_move, eqb_same, HasSpun, refused_because, IsLook, kept_or_written, IsOneEach, without_one_each, without_counts, counted_of, both_kinds, unwritten_exclusive, written_exclusive, holds_after, without_only}
pub use Rattle.model_rw_reader.specs.Names.{Word, Act, Event, HoldKind, Intent, Arithmetic, carried_out, Table, Hold, PendingCall, call_of, holds_of, hold_of, hold_among, word_in, word_after, without, reads_in, writes_in, Move, stage_of, IsPast, IsExclusive, WaitAction, Call, place_after, step_at, is_step, last_of, StepsAs, seen_last, EndsWithin, open_at, Wake, Then, After, hold_after, latest_outcome, acts_of, IsAnswered, AnswersByHold, MatchBool, MatchOption, Answer, Patience, outcome_of, within, refused, same_word, event, sight_of, is_sight, keeps_asking, HasAborted, OtherWroteSinceSight, spins_in, WhereAsked, Lacks, is_refusal}
pub use Rattle.model_rw_reader.specs.Law.{CountsHolds, rw_reader_most, RwReaderStep, HasUnlocked, steps_in_vain, rw_reader_waiting, KeepsRwReader, RwReaderCause, is_in_vain, lock_spins}
pub use Rattle.model_rw_reader.specs.declared.RwReaderPlace.{RwReaderPlace}
pub use Rattle.model_rw_reader.specs.Table.{lets_readers_in, rw_reader_table, rw_reader_begins, rw_reader_after, rw_reader_answered, read_look}
