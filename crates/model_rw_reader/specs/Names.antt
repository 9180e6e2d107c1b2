-- What this crate reads of others.
pub use Rattle.std.specs.Prelude.{MatchOption, MatchBool}
pub use Rattle.model_events.specs.Exports.{Arithmetic, SpinCount, sight_at, whole_call, Waiting, WaitsAs, WhereAsked, reads_in, writes_in, IsLocked, Keeps, Lacks, is_refusal, IsExclusive, is_step, step_at, Move, stage_of, StepsAs, refused_waiting, EndsWithin, seen_last, Hold, call_of, holds_of, word_in, PendingCall, hold_of, hold_after, latest_outcome, same_word, event, hold_among, word_after, without, within, refused, answered, outcome_of, place_after, carried_out, IsPast, AnswersByHold, acts_of, IsAnswered, gives_up, reader_looked, ReadsIn, WritesIn, open_at, is_sight, AtLastSight, HasAborted, HasMissed, spins_in, last_of, sight_of, keeps_asking, OtherWroteSinceSight, Table}
pub use Rattle.model_events.specs.declared.{WaitAction.WaitAction, event.Act.Act, event.Answer.Answer, event.Call.Call, event.Event.Event, event.Then.Then, event.Wake.Wake, event.Word.Word, hold.HoldKind.HoldKind, patience.Patience.Patience, row.After.After, row.Intent.Intent}
