-- What this crate reads of others.
pub use Rattle.model_events.specs.Arithmetic.{Arithmetic}
pub use Rattle.model_events.specs.Moves.{stage_of, hold_fault, CallValues, InputValues, step_at, fault_at, begin_fault, go_fault, answer_fault, choose_fault, IsNext, next_stage}
pub use Rattle.model_events.specs.Past.{call_of, hold_of, word_in, PendingCall, hold_after, latest_outcome, holds_of, hold_taken, same_word, word_after, event, call_after, call_going_on, hold_or, is_release}
pub use Rattle.model_events.specs.Rows.{carried_out, value_told, within, refused, answered, outcome_of, place_after}
pub use Rattle.model_events.specs.Runs.{IsPast}
pub use Rattle.model_events.specs.Tables.{Table}
pub use Rattle.model_events.specs.declared.WaitAction.{WaitAction}
pub use Rattle.model_events.specs.declared.event.Act.{Act}
pub use Rattle.model_events.specs.declared.event.Answer.{Answer}
pub use Rattle.model_events.specs.declared.event.Call.{Call}
pub use Rattle.model_events.specs.declared.event.Event.{Event}
pub use Rattle.model_events.specs.declared.event.Input.{Input}
pub use Rattle.model_events.specs.declared.event.StepFault.{StepFault}
pub use Rattle.model_events.specs.declared.event.Then.{Then}
pub use Rattle.model_events.specs.declared.event.Wake.{Wake}
pub use Rattle.model_events.specs.declared.event.Word.{Word}
pub use Rattle.model_events.specs.declared.hold.HoldKind.{HoldKind}
pub use Rattle.model_events.specs.declared.patience.Patience.{Patience}
pub use Rattle.model_events.specs.declared.row.After.{After}
pub use Rattle.model_events.specs.declared.row.Intent.{Intent}
pub use Rattle.running_passes.specs.Answers.{HasAsked}
pub use Rattle.running_passes.specs.Passes.{part_of, sights_of, IsSamePass, view, tally_of, object_of}
pub use Rattle.running_passes.specs.Sights.{HasLooked, HasOnlyRead, HasWritten, seen, seen_instead, stale}
pub use Rattle.running_passes.specs.Tallies.{IsTally}
pub use Rattle.running_passes.specs.Views.{looked, missed, wrote, view_of, Updates, IsCounted}
pub use Rattle.running_passes.specs.declared.part.Part.{Part}
pub use Rattle.running_passes.specs.declared.part.Sights.{Sights}
pub use Rattle.running_passes.specs.declared.pass.Pass.{Pass}
pub use Rattle.running_passes.specs.declared.view.View.{View}
pub use Rattle.std.proofs.Common.{refl, sym, ap, ◌∙◌, arith}
pub use Rattle.std.proofs.lemmas.Bool.{eqb-true, eqb-false}
pub use Rattle.std.proofs.lemmas.Bool.Decides.{nat_tests}
pub use Rattle.std.specs.Borrow.{MutBor, Bor}
pub use Rattle.std.specs.Fn.{Shared, FnReturns}
pub use Rattle.std.specs.Prelude.{nat_lt}
