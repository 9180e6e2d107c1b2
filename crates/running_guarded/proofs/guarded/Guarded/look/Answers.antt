use Rattle.running_guarded.proofs.Names.{Bool, subst}
use Rattle.running_guarded.proofs.Acting.{answered}
use Rattle.running_condvar.specs.CondShown.{HasSlept, permits_in}
use Rattle.running_guarded.specs.Acting.{permits_of}
use Rattle.running_guarded.proofs.guarded.Guarded.look.Goals as goal

pub returns-in-Some-clause-called : goal.returns-in-Some-clause-called
returns-in-Some-clause-called g c = answered g.F.FnMut _ _ _ _ _ c.in-Some.ensures

pub returns-then-notified-clause-called : goal.returns-then-notified-clause-called
returns-then-notified-clause-called g c = answered g.F.FnMut _ _ _ _ _ c.in-None.ensures

pub returns-else-notified-clause-called : goal.returns-else-notified-clause-called
returns-else-notified-clause-called g c = answered g.F.FnMut _ _ _ _ _ c.in-None.ensures

pub returns-then-notified-clause-slept : goal.returns-then-notified-clause-slept
returns-then-notified-clause-slept g c = subst (λ (took : Bool). HasSlept g.W.FnMut c.args.word.now.shown c.args.wait c.sleep-left.result.3 (permits_of c.args.changed.now) took (permits_in c.args.changed_pass.now) (permits_in c.sleep-left.new.changed_pass)) c.if-notified.true c.sleep-left.ensures.slept

pub returns-else-notified-clause-slept : goal.returns-else-notified-clause-slept
returns-else-notified-clause-slept g c = subst (λ (took : Bool). HasSlept g.W.FnMut c.args.word.now.shown c.args.wait c.sleep-left.result.3 (permits_of c.args.changed.now) took (permits_in c.args.changed_pass.now) (permits_in c.sleep-left.new.changed_pass)) c.if-notified.false c.sleep-left.ensures.slept
