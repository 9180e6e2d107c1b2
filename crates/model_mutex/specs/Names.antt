-- What this crate reads of others.
pub use Rattle.std.specs.Prelude.{MatchBool, MatchOption, nat_lt}
pub use Rattle.model_events.specs.Exports.{SpinCount, sight_at, whole_call, Waiting, WaitsAs, WhereAsked, IsLocked, is_refusal, Keeps, Lacks, is_step, Move, step_at, hold_fault, answer_fault, choose_fault, call_of, holds_of, hold_of, is_failure, failures_in, same_word, PendingCall, hold_after, word_in, latest_outcome, event, within, refused, answered, carried_out, value_told, place_after, is_sight, AtLastSight, HasAborted, spins_in, stands_in, exchanges_in, sight_of, keeps_asking, stands_at_wait, Table}
pub use Rattle.model_events.specs.declared.{WaitAction.WaitAction, event.Act.Act, event.Answer.Answer, event.Call.Call, event.Event.Event, event.Then.Then, event.Wake.Wake, event.Word.Word, hold.HoldKind.HoldKind, patience.Patience.Patience, row.After.After}
