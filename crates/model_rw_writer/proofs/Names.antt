-- The lemmas of others that this crate cites.
pub use Rattle.std.proofs.Common.{◌≡◌, ℕ, ◌+◌, ◌-◌, ◌%◌, ◌^◌, List, [], ◌∷◌, Option, Some, None, arith, ◌≤◌, sym, subst, true, false, ◌∙◌, Bool, cond, ◌||◌, ◌≢◌, ◌<◌, ◌==◌, refl, ap, ◌&&◌, length, ◌⊎◌, inl, inr, ◌↔◌, is_some}
pub use Rattle.std.proofs.lemmas.Bool.{eqb-true, eqb-false, false≢true, eq-eqb}
pub use Rattle.std.proofs.lemmas.Bool.Decides.{nat_tests, eqb_tells}
pub use Rattle.model_events.proofs.Exports.{spins_no_more, last_try_bounded, both_kept, waits_first, waits_as, both_kinds, IsOneEach, without_one_each, without_counts, counted_of, unwritten_exclusive, written_exclusive, eqb_same, call_of_same, call_of_other, some_same, eqb_other, kept_or_written, longer, at_last_sight, IsLook, LastSaw, holds_after, without_only, IsKept, at_place, fault_at_none, LeadsTo, leads_on, answers_by_hold, LeadsTo as OwnLeadsTo, answered_keep, HasSpun, by_move, tells_memory, carried_goes_on, carried_stage}
pub use Rattle.model_rw_writer.specs.Names.{nat_lt, not, WaitAction, Word, Call, Act, Event, Input, Then, HoldKind, After, Arithmetic, carried_out, value_told, outcome_of, place_after, PendingCall, call_of, call_after, call_going_on, Hold, holds_of, hold_of, word_in, word_after, event, latest_outcome, writes_in, is_beginning, Move, step_at, stage_of, IsPast, Patience, acts_in, is_step, next_stage, hold_after, is_failure, hold_fault, answer_fault, choose_fault, sight_of, is_sight, is_write, is_abort, keeps_asking, fault_at, Wake, Answer, within, refused, last_of, StepsAs, EndsWithin, step_before, seen_last, Loads, Exchanges, open_at, WritesIn, MatchBool, MatchOption, HasAborted, OtherWroteSinceSight, AtLastSight, is_refusal, IsLocked, SpinsNoMore, acts_of, IsAnswered, AnswersByHold, Intent, hold_among, without, reads_in, IsExclusive, same_word, Lacks, stands_at_wait, WhereAsked}
pub use Rattle.model_rw_writer.specs.declared.Leaver.{Leaver}
pub use Rattle.model_rw_writer.specs.declared.RwWriterPlace.{RwWriterPlace}
pub use Rattle.model_rw_writer.specs.Table.{is_odd, rw_writer_table, rw_writer_answered, is_blocked, lets_writer_in, unmarks_or_leaves, rw_writer_begins, rw_writer_grant, lets_readers_in, is_mark, read_look, spins, write_refused, write_look, last_look, released, rw_writer_after, lets_mark, is_marked, marks_or_spins, try_read_look, woken_one, woken_all}
pub use Rattle.model_rw_writer.specs.Marks.{is_marked_after, is_writing, setter_after, setter_of, sets_mark, has_marked}
pub use Rattle.model_rw_writer.specs.Law.{CountsHolds, write_spins_in, left_unmarking, left_refused, left_looking, left_last, goes_on_anyway, LooksToWrite, LookedAt, CountsOne, ExchangedFrom, WriterStep, rw_writer_most, RwWriterStep, HasMissedAfterAbort, RwWriterCause, IsExactGrant, rw_writer_waiting, KeepsRwWriter, spins_on, HasUnlocked, IsSetter, SetterIsUnderWay, StandsWhereBlocked, is_read_in_vain, spins_of, told_by}
pub use Rattle.model_rw_writer.specs.Debts.{is_answer, is_even_after, makes_even, wakes_all, owes_wake, Evener, evener_after, evener_of, ReaderStands, ReadersAreWoken, blocks, is_blocked_after, adds_count, owes_count, loads_count, counts_since_load, StandsWith, NoCountIsLost, PaysNext, CounterCountsAdds}
