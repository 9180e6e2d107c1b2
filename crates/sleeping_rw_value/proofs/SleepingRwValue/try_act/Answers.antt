use Rattle.std.proofs.Common.{◌≡◌, ◌∙◌, sym, subst}
use Rattle.model_events.specs.declared.hold.HoldKind.TheVariants as kinds
use Rattle.running_rw_writer.specs.declared.pass.RwWriterPass.{RwWriterPass}
use Rattle.running_rw_writer.specs.RwWriterShown.{pass_in, HasLeftWriting}
use Rattle.running_rw_value.specs.RwValueShown.{PlaysUnlock}
use Rattle.sleeping_rw_value.proofs.SleepingRwValue.try_act.Goals as goal

pub returns-in-Success-clause-acted : goal.returns-in-Success-clause-acted
returns-in-Success-clause-acted g c = record { found = _; left = _; says = c.change-given.ensures.acted }

pub returns-in-Success-clause-locked : goal.returns-in-Success-clause-locked
returns-in-Success-clause-locked g c =
    let within = c.in-Success.guard.held.pass.now in
    let same = c.change-given.ensures.same_pass in
    let back = sym (c.pass-1.given.1 (sym c.in-Success.ensures.same_borrow ∙ sym c.change-given.ensures.same_borrow ∙ sym c.unlock_write.ensures.same_borrow)) in record {
      within = within;
      entered = c.in-Success.ensures.granted;
      at_once = c.in-Success.ensures.at_once;
      came = c.in-Success.ensures.played;
      left = subst (λ (q : RwWriterPass). HasLeftWriting (pass_in within) (pass_in q)) back
          (subst (λ (p : RwWriterPass). HasLeftWriting (pass_in p) (pass_in c.unlock_write.result.now)) same c.unlock_write.ensures.released);
      went = subst (λ (q : RwWriterPass). PlaysUnlock kinds.Write within q) back
          (subst (λ (p : RwWriterPass). PlaysUnlock kinds.Write p c.unlock_write.result.now) same c.unlock_write.ensures.played);
    }
