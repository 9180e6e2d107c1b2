-- What this crate reads of others.
pub use Rattle.std.specs.Prelude.{not, MatchOption, unwrap_or}
pub use Rattle.model_events.specs.Exports.{Arithmetic, IsValue, IsClosed, writes_in, Keeps, TellsMemory, IsExclusive, HasCause, is_refusal, Lacks, is_step, Move, go_fault, stage_of, step_at, next_stage, fault_at, choose_fault, CallValues, InputValues, answer_fault, StepsAs, seen_last, Loads, Exchanges, PendingCall, call_of, holds_of, hold_of, word_in, latest_outcome, Hold, hold_among, call_after, word_after, event, same_word, hold_after, carried_out, value_told, outcome_of, place_after, IsPast, open_at, acts_in, is_sight, is_write, is_done_exchange, last_of, Table}
pub use Rattle.model_events.specs.declared.{WaitAction.WaitAction, event.Act.Act, event.Answer.Answer, event.Call.Call, event.Event.Event, event.Input.Input, event.Then.Then, event.Word.Word, hold.HoldKind.HoldKind, row.After.After}
pub use Rattle.model_rw_reader.specs.Law.{CountsHolds, may_read, Releases}
pub use Rattle.model_rw_reader.specs.Table.{lets_readers_in, release}
