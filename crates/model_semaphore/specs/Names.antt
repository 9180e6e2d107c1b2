-- What this crate reads of others.
pub use Rattle.std.specs.Prelude.{MatchBool, IfSome, MatchOption, is_some}
pub use Rattle.model_events.specs.Exports.{SpinCount, sight_at, whole_call, Waiting, WaitsAs, WhereAsked, Keeps, is_apart, Lacks, is_refusal, is_step, Move, step_at, PendingCall, holds_of, same_word, call_of, hold_of, word_in, word_after, latest_outcome, event, within, refused, answered, carried_out, value_told, place_after, AtLastSight, HasAborted, spins_in, last_of, sight_of, keeps_asking, is_abort}
pub use Rattle.model_events.specs.declared.{WaitAction.WaitAction, event.Act.Act, event.Answer.Answer, event.Call.Call, event.Event.Event, event.Then.Then, event.Wake.Wake, event.Word.Word, patience.Patience.Patience, row.After.After}
