-- What this crate reads of others.
pub use Rattle.std.specs.Prelude.{nat_lt, not, MatchBool, MatchOption}
pub use Rattle.model_events.specs.Exports.{Arithmetic, SpinCount, but_last_try, Refusing, whole_call, Waiting, WaitsAs, SpinsNoMore, WhereAsked, reads_in, writes_in, IsLocked, Keeps, is_refusal, Lacks, IsExclusive, is_step, step_at, answer_fault, choose_fault, Move, stage_of, next_stage, hold_fault, fault_at, StepsAs, refused_waiting, EndsWithin, step_before, Loads, Exchanges, seen_last, Hold, PendingCall, call_of, holds_of, word_in, latest_outcome, is_failure, hold_of, hold_after, event, call_after, call_going_on, word_after, same_word, hold_among, without, within, refused, answered, carried_out, value_told, outcome_of, place_after, IsPast, acts_of, AnswersByHold, IsAnswered, gives_up, reader_looked, ReadsIn, WritesIn, open_at, acts_in, is_sight, is_beginning, AtLastSight, HasAborted, HasMissed, OtherWroteSinceSight, sight_of, goes_on, stands_at_wait, spins_in, last_of, keeps_asking, is_abort, is_write}
pub use Rattle.model_events.specs.declared.{WaitAction.WaitAction, event.Act.Act, event.Answer.Answer, event.Call.Call, event.Event.Event, event.Input.Input, event.Then.Then, event.Wake.Wake, event.Word.Word, hold.HoldKind.HoldKind, patience.Patience.Patience, row.After.After, row.Intent.Intent}
