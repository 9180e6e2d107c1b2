use Rattle.running_guarded.proofs.Acting.{stays_by}
use Rattle.running_guarded.proofs.guarded.Guarded.sleep.Goals as goal

pub returns-clause-may_again : goal.returns-clause-may_again
returns-clause-may_again g c = (c.wait_around-left.ensures.left.says.1.3, c.wait_around-left.ensures.may_again)

pub returns-clause-same : goal.returns-clause-same
returns-clause-same g c = c.wait_around-left.ensures.left.says.1.0

pub returns-clause-off : goal.returns-clause-off
returns-clause-off g c = c.wait_around-left.ensures.left.says.1.1

pub returns-clause-played : goal.returns-clause-played
returns-clause-played g c = c.wait_around-left.ensures.left.says.1.2

pub returns-clause-woke : goal.returns-clause-woke
returns-clause-woke g c = c.wait_around-left.ensures.left.says.1.4

pub returns-clause-waited : goal.returns-clause-waited
returns-clause-waited g c = stays_by _ _ _ _ _ _ c.args.changed_pass.now c.wait_around-left.new.cond_pass c.wait_around-left.ensures.counted c.wait_around-left.ensures.slept
