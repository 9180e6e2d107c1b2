-- What this crate reads of others.
pub use Rattle.std.specs.Prelude.{IfSome, MatchBool, MatchOption}
pub use Rattle.model_events.specs.Exports.{Arithmetic, Keeps, IsTold, Lacks, is_refusal, is_step, Move, stage_of, step_at, StepsAs, EndsWithin, call_of, word_in, holds_of, event, PendingCall, hold_of, word_after, same_word, carried_out, value_told, outcome_of, place_after, IsPast, AtLast, is_done_exchange, is_exchange, acts_in, last_of, Table}
pub use Rattle.model_events.specs.declared.{event.Act.Act, event.Answer.Answer, event.Call.Call, event.Event.Event, event.Then.Then, event.Word.Word, row.After.After, row.Intent.Intent}
