use Rattle.std.proofs.Common.{◌∙◌, refl, sym, subst}
use Rattle.model_events.specs.declared.hold.HoldKind.TheVariants as kinds
use Rattle.running_rw_writer.specs.declared.pass.RwWriterPass.{RwWriterPass}
use Rattle.running_rw_writer.specs.RwWriterShown.{pass_in, HasLeftWriting}
use Rattle.running_rw_writer.proofs.RwWriterTries.{gives_up_by}
use Rattle.running_rw_value.specs.RwValueShown.{PlaysUnlock}
use Rattle.running_rw_value.proofs.lock.RwLock.with_write.Goals as goal

pub returns-then-not-entered-clause-aborted : goal.returns-then-not-entered-clause-aborted
returns-then-not-entered-clause-aborted g c = let no = c.if-not-entered.true in c.enter_to_write-entered.ensures.aborted cc

pub returns-clause-written : goal.returns-clause-written
returns-clause-written g c =
    let yes = c.if-not-entered.false in
    let within = c.enter_to_write-entered.new.pass in
    let back = sym (c.pass-1.given.1 (sym c.write_hold.ensures.same_reference ∙ sym c.unlock.ensures.same_borrow)) in record {
      within = within;
      entered = c.enter_to_write-entered.ensures.entered cc;
      came = c.enter_to_write-entered.ensures.played cc;
      left = subst (λ (q : RwWriterPass). HasLeftWriting (pass_in within) (pass_in q)) back
          (subst (λ (p : RwWriterPass). HasLeftWriting (pass_in p) (pass_in c.unlock.result.now)) c.write_hold.ensures.same_pass (c.unlock.ensures.released.writing tt));
      went = subst (λ (q : RwWriterPass). PlaysUnlock kinds.Write within q) back
          (subst (λ (p : RwWriterPass). PlaysUnlock kinds.Write p c.unlock.result.now) c.write_hold.ensures.same_pass c.unlock.ensures.played);
    }

pub returns-clause-acted : goal.returns-clause-acted
returns-clause-acted g c = record { found = c.deref_mut.result.now; left = _; says = record { shown = _; shows = refl; left = _; met = c.act-given.ensures; leaves = refl } }

pub returns-clause-woke : goal.returns-clause-woke
returns-clause-woke g c = c.unlock.ensures.woke_both tt

pub returns-then-not-entered-clause-woke_giving_up : goal.returns-then-not-entered-clause-woke_giving_up
returns-then-not-entered-clause-woke_giving_up g c marked = let woke = c.enter_to_write-entered.ensures.woke c.if-not-entered.true marked in (
  record { word = woke.0.word; of = woke.0.of; says = record { shown = woke.0.says.shown; shows = woke.0.says.shows; says = record { met = woke.0.says.says.met } } },
  record { word = woke.1.word; of = woke.1.of; says = record { shown = woke.1.says.shown; shows = woke.1.says.shows; says = record { met = woke.1.says.says.met } } },
)

pub returns-then-not-entered-clause-gave_up : goal.returns-then-not-entered-clause-gave_up
returns-then-not-entered-clause-gave_up g c = gives_up_by _ _ (pass_in c.args.pass.now) (pass_in c.enter_to_write-entered.new.pass) (λ woke. (
  record { word = woke.0.word; of = woke.0.of; says = record { shown = woke.0.says.shown; shows = woke.0.says.shows; says = record { met = woke.0.says.says.met } } },
  record { word = woke.1.word; of = woke.1.of; says = record { shown = woke.1.says.shown; shows = woke.1.says.shows; says = record { met = woke.1.says.says.met } } },
)) (c.enter_to_write-entered.ensures.gave_up c.if-not-entered.true)
