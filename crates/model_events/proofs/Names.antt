-- What several files of the proofs read.
pub use Rattle.std.proofs.Common.{◌≡◌, ◌≢◌, ℕ, ◌≤◌, ◌<◌, ◌==◌, refl, sym, subst, Bool, true, false, cond, List, [], ◌∷◌, Some, ◌⊎◌, inl, inr, arith, ◌∙◌, Option, None, ◌+◌, ap, is_some, zero, suc, length, get_or, ◌&&◌, ◌↔◌}
pub use Rattle.std.specs.Prelude.{MatchBool, MatchOption, nat_lt}
pub use Rattle.std.proofs.lemmas.Bool.{eq-eqb, eqb-true, eqb-false}
pub use Rattle.std.proofs.lemmas.Bool.Decides.{nat_tests, eqb_tells}
pub use Rattle.model_events.specs.Exports.{Arithmetic, Table, PendingCall, call_of, word_in, IsPast, AtLast, is_beginning, acts_in, last_of, IsTold, Hold, call_after, holds_of, hold_among, hold_or, hold_after, without, with_hold, is_release, hold_taken, event, IsExclusive, carried_out, value_told, outcome_of, place_after, within, refused, hold_of, Move, stage_of, step_at, is_step, spins_in, StepsAs, EndsWithin, call_going_on, latest_outcome, next_stage, move_of, fault_at, fault_of, hold_fault, begin_fault, go_fault, answer_fault, choose_fault, CallValues, InputValues, IsNext, same_kind, holds_of_kind, reads_in, writes_in, is_continue, keeps_asking, is_abort, is_refusal, kind_wanted, IsRwAnswer, IsAnswered, AnswersByHold, word_after, HasForm, stage_after, TellsMemory, is_apart, Lacks, sight_of, is_sight, is_write, AtLastSight, OtherWroteSinceSight, WhereAsked, SpinCount, SpinsNoMore, but_last_try, Waiting, WaitsAs}
pub use Rattle.model_events.specs.Types.{Act, Event, Call, Then, HoldKind, WaitAction, Word, Patience, Answer, Input, StepFault, After, Intent}
