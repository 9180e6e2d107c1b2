use Rattle.sync_steps.proofs.Names.{subst, Configuration, Strides}
use Rattle.sync_steps.proofs.StrideLaws.{spins_stride, step_strides}
use Rattle.sync_steps.proofs.steps.machine.Machine.stride.Goals as goal

pub returns-in-Some-clause-run : goal.returns-in-Some-clause-run
returns-in-Some-clause-run g c =
    spins_stride g.T.AtomicInteger.arithmetic c.args.party c.in-Some.stride.event c.in-Some.stride.times c.args.self.now c.spin.new.self c.in-Some.ensures.0

pub returns-clause-run : goal.returns-clause-run
returns-clause-run g c =
    subst (λ (m : Configuration g.row.T.Denot). Strides g.T.AtomicInteger.arithmetic m c.args.party c.in_ok-event.event 1 c.step.new.self) c.in_default.ensures
    (step_strides g.T.AtomicInteger.arithmetic c.args.party c.in_ok-event.event c.spin.new.self c.step.new.self c.in_ok-event.ensures.next)
