-- What this crate reads of others.
pub use Rattle.std.specs.Prelude.{nat_lt, MatchBool, MatchOption}
pub use Rattle.model_events.specs.Exports.{SpinCount, sight_at, Waiting, WaitsAs, WhereAsked, Keeps, Lacks, is_refusal, is_step, Move, step_at, StepsAs, seen_last, Loads, Exchanges, call_of, holds_of, word_in, same_word, PendingCall, hold_of, word_after, event, within, refused, carried_out, value_told, outcome_of, place_after, is_sight, AtLast, spins_in, last_of, is_done_exchange, acts_in}
pub use Rattle.model_events.specs.declared.{event.Act.Act, event.Answer.Answer, event.Call.Call, event.Event.Event, event.Then.Then, event.Wake.Wake, event.Word.Word, row.After.After}
