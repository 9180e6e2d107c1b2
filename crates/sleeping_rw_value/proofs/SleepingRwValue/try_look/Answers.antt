use Rattle.std.proofs.Common.{◌≡◌, ◌∙◌, sym, subst}
use Rattle.model_events.specs.declared.hold.HoldKind.TheVariants as kinds
use Rattle.running_rw_writer.specs.declared.pass.RwWriterPass.{RwWriterPass}
use Rattle.running_rw_writer.specs.RwWriterShown.{pass_in, HasLeftReading}
use Rattle.running_rw_value.specs.RwValueShown.{PlaysUnlock}
use Rattle.sleeping_rw_value.proofs.SleepingRwValue.try_look.Goals as goal

pub returns-in-Success-clause-locked : goal.returns-in-Success-clause-locked
returns-in-Success-clause-locked g c =
    let back = sym (c.pass-1.given.1 (sym c.in-Success.ensures.same_borrow ∙ sym c.unlock_read.ensures.same_borrow)) in record {
      within = c.in-Success.guard.pass.now;
      entered = c.in-Success.ensures.granted;
      at_once = c.in-Success.ensures.at_once;
      came = c.in-Success.ensures.played;
      left = subst (λ (q : RwWriterPass). HasLeftReading (pass_in c.in-Success.guard.pass.now) (pass_in q)) back c.unlock_read.ensures.released;
      went = subst (λ (q : RwWriterPass). PlaysUnlock kinds.Read c.in-Success.guard.pass.now q) back c.unlock_read.ensures.played;
    }
