use Rattle.running_guarded.proofs.Names.{◌∙◌, suc, refl, arith}
use Rattle.std.proofs.Common.{inl, inr}
use Rattle.running_guarded.specs.declared.when.Looked.TheVariants.{Acted, Again, GaveUp}
use Rattle.running_guarded.proofs.Acting.{looked_as}
use Rattle.running_guarded.proofs.guarded.Guarded.when_by.Goals as goal

pub loop-init : goal.loop-init
loop-init g c = record {
  stayed = record { same = (refl, refl, c.requires.own.0.1); part = refl; grants = omega arith; saw = omega arith };
  waited = record { waits = (refl, refl); permits = (refl, refl); part_of_waits = refl; part_of_permits = refl };
  looked = (0, refl);
  callable = c.requires.may.2;
  wakes = c.requires.may.0;
  asks = c.requires.may.1;
}

pub returns-in-Acted-clause-looked : goal.returns-in-Acted-clause-looked
returns-in-Acted-clause-looked g c = let before = c.loop.invariant.looked in let look = c.look-looked.ensures in record {
  waits = before.0;
  between = (c.loop.pass, c.loop.changed_pass, c.loop.wake, c.loop.asked, c.loop.act);
  before = before.1;
  last = inl (refl, looked_as _ _ _ _ _ _ (c.loop.pass, c.loop.changed_pass, c.loop.wake, c.loop.asked, c.loop.act) (c.look-looked.new.pass, c.look-looked.new.changed_pass, c.look-looked.result.1, c.look-looked.result.2, c.look-looked.new.act) c.look-looked.result.0 (Acted c.in-Acted.given) c.in-Acted.is (record { called = look.called; granted = look.granted; played = look.played; woke = look.woke; sleeps = look.slept }));
}

pub loop-preserved : goal.loop-preserved
loop-preserved g c = let before = c.loop.invariant in let look = c.look-looked.ensures in record {
  stayed = record {
    same = (look.stayed.same.0 ∙ before.stayed.same.0, look.stayed.same.1 ∙ before.stayed.same.1, look.stayed.same.2);
    part = look.stayed.part ∙ before.stayed.part;
    grants = omega (arith, before.stayed.grants, look.stayed.grants);
    saw = omega (arith, before.stayed.saw, look.stayed.saw);
  };
  waited = record {
    waits = (look.waited.waits.0 ∙ before.waited.waits.0, look.waited.waits.1 ∙ before.waited.waits.1);
    permits = (look.waited.permits.0 ∙ before.waited.permits.0, look.waited.permits.1 ∙ before.waited.permits.1);
    part_of_waits = look.waited.part_of_waits ∙ before.waited.part_of_waits;
    part_of_permits = look.waited.part_of_permits ∙ before.waited.part_of_permits;
  };
  looked = (suc before.looked.0, ((c.loop.pass, c.loop.changed_pass, c.loop.wake, c.loop.asked, c.loop.act), before.looked.1, looked_as _ _ _ _ _ _ (c.loop.pass, c.loop.changed_pass, c.loop.wake, c.loop.asked, c.loop.act) (c.look-looked.new.pass, c.look-looked.new.changed_pass, c.look-looked.result.1, c.look-looked.result.2, c.look-looked.new.act) c.look-looked.result.0 Again c.in-Again.is (record { called = look.called; granted = look.granted; played = look.played; woke = look.woke; sleeps = look.slept })));
  callable = look.callable.2;
  wakes = look.callable.0;
  asks = look.callable.1;
}

pub returns-in-GaveUp-clause-looked : goal.returns-in-GaveUp-clause-looked
returns-in-GaveUp-clause-looked g c = let before = c.loop.invariant.looked in let look = c.look-looked.ensures in let last = c.look_last-given.ensures in record {
  waits = before.0;
  between = (c.loop.pass, c.loop.changed_pass, c.loop.wake, c.loop.asked, c.loop.act);
  before = before.1;
  last = inr ((c.look-looked.new.pass, c.look-looked.new.changed_pass, c.look-looked.result.1, c.look-looked.result.2, c.look-looked.new.act), looked_as _ _ _ _ _ _ (c.loop.pass, c.loop.changed_pass, c.loop.wake, c.loop.asked, c.loop.act) (c.look-looked.new.pass, c.look-looked.new.changed_pass, c.look-looked.result.1, c.look-looked.result.2, c.look-looked.new.act) c.look-looked.result.0 GaveUp c.in-GaveUp.is (record { called = look.called; granted = look.granted; played = look.played; woke = look.woke; sleeps = look.slept }), record { called = last.called; granted = last.granted; played = last.played; woke = last.woke; sleeps = (refl, refl) });
}
