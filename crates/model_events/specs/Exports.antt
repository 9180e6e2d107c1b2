-- What other crates read of this one.
pub use Rattle.model_events.specs.Arithmetic.{Arithmetic, IsValue, IsClosed}
pub use Rattle.model_events.specs.Asks.{WhereAsked, SpinCount, SpinsNoMore, but_last_try, Refusing, sight_at, WaitEvents, whole_call, Waiting, WaitsAs}
pub use Rattle.model_events.specs.HoldCounts.{same_kind, holds_of_kind, reads_in, writes_in}
pub use Rattle.model_events.specs.Integers.{width_of, span, high_bits, joined, arithmetic_of, unsigned, fits_signed, signed, u64_arithmetic, u128_arithmetic, i64_arithmetic, i128_arithmetic}
pub use Rattle.model_events.specs.Laws.{IsTold, TellsMemory, IsExclusive, IsLocked, is_refusal, HasCause, Keeps, is_apart, Lacks}
pub use Rattle.model_events.specs.Moves.{stage_after, next_stage, stage_of, is_locking, hold_fault, begin_fault, go_fault, answer_fault, choose_fault, fault_at, fault_of, Move, step_at, move_of, is_step, HasForm, CallValues, InputValues, IsNext}
pub use Rattle.model_events.specs.NextStep.{StepsAs, refused_waiting, step_before, seen_by, seen_last, Loads, Exchanges, EndsWithin}
pub use Rattle.model_events.specs.Past.{same_word, word_after, word_in, event, PendingCall, call_going_on, call_after, call_of, latest_outcome, Hold, is_release, hold_taken, with_hold, without, holds_of, hold_among, hold_of, hold_or, hold_after, is_failure, failures_by, failures_in}
pub use Rattle.model_events.specs.Rows.{carried_out, value_told, outcome_of, place_after, within, within_then, refused, is_continue, answered}
pub use Rattle.model_events.specs.Runs.{IsPast, IsRunBy, after, AtEveryPrefix, ContinuesBy, ContinuesUpTo}
pub use Rattle.model_events.specs.RwAnswers.{kind_wanted, acts_of, IsRwAnswer, IsAnswered, AnswersByHold}
pub use Rattle.model_events.specs.RwSteps.{gives_up, open_at, reader_looked, ReadsIn, WritesIn}
pub use Rattle.model_events.specs.Sights.{sight_of, is_sight, is_beginning, AtLast, AtLastSight, is_abort, keeps_asking, HasAborted, is_write, OtherWroteSinceSight, HasMissed, goes_on, stands_at_wait, spins_in, stands_in, is_exchange, exchanges_in, is_done_exchange, acts_in, last_of}
pub use Rattle.model_events.specs.Tables.{Table}
pub use Rattle.model_events.specs.WordsAt.{word_at}
