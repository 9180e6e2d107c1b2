use Rattle.std.proofs.Common.{◌≡◌, ◌∙◌, sym, subst}
use Rattle.running_model.specs.Shown.{object_shown, index_shown}
use Rattle.model_events.specs.declared.hold.HoldKind.TheVariants as kinds
use Rattle.running_rw_writer.specs.declared.pass.RwWriterPass.{RwWriterPass}
use Rattle.running_rw_writer.specs.RwWriterShown.{pass_in, sights_in, HasLeftReading, HasWokenOne}
use Rattle.running_rw_value.specs.RwValueShown.{PlaysUnlock}
use Rattle.running_rw_value.proofs.lock.RwLock.with_read.Goals as goal

pub returns-then-not-entered-clause-aborted : goal.returns-then-not-entered-clause-aborted
returns-then-not-entered-clause-aborted g c = let no = c.if-not-entered.true in c.enter_to_read-entered.ensures.aborted cc

pub returns-clause-read : goal.returns-clause-read
returns-clause-read g c =
    let yes = c.if-not-entered.false in
    let within = c.enter_to_read-entered.new.pass in
    let back = sym (c.pass-1.given.1 (sym c.read_hold.ensures.same_reference ∙ sym c.unlock.ensures.same_borrow)) in record {
      within = within;
      entered = c.enter_to_read-entered.ensures.entered cc;
      came = c.enter_to_read-entered.ensures.played cc;
      left = subst (λ (q : RwWriterPass). HasLeftReading (pass_in within) (pass_in q)) back
          (subst (λ (p : RwWriterPass). HasLeftReading (pass_in p) (pass_in c.unlock.result.now)) c.read_hold.ensures.same_pass (c.unlock.ensures.released.reading tt));
      went = subst (λ (q : RwWriterPass). PlaysUnlock kinds.Read within q) back
          (subst (λ (p : RwWriterPass). PlaysUnlock kinds.Read p c.unlock.result.now) c.read_hold.ensures.same_pass c.unlock.ensures.played);
    }

pub returns-clause-woke : goal.returns-clause-woke
returns-clause-woke g c =
    let back = sym (c.pass-1.given.1 (sym c.read_hold.ensures.same_reference ∙ sym c.unlock.ensures.same_borrow)) in
    subst (λ (q : RwWriterPass). (sights_in q).last ≡ 3 → HasWokenOne g.K.Fn object_shown index_shown c.args.self.now.lock c.args.wake_one) back (c.unlock.ensures.woke_one tt)
