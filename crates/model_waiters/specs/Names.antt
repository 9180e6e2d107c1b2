-- What this crate reads of others.
pub use Rattle.model_events.specs.Exports.{is_step, call_of, holds_of, word_in, PendingCall, acts_in, last_of, Table}
pub use Rattle.model_events.specs.declared.{event.Act.Act, event.Answer.Answer, event.Call.Call, event.Event.Event, event.Then.Then, event.Word.Word, row.After.After, row.Intent.Intent}
pub use Rattle.model_condvar.specs.Waiters.{is_count, is_counted, waiting_after, times}
pub use Rattle.model_waiters.specs.declared.WaitersPlace.{WaitersPlace}
