use Rattle.running_condvar.proofs.CondCalls.{permits_are, notifies, gives_none}
use Rattle.running_condvar.proofs.ConditionVariable.notify_by.Goals as goal

pub returns-clause-posted : goal.returns-clause-posted
returns-clause-posted g c = notifies _ _ _ _ c.args.pass.now _ c.args.self.now.no_permit (permits_are _ _ _ c.permits_for.ensures.one c.permits_for.ensures.all).0 c.waiting-waiting.ensures.saw c.waiting-waiting.ensures.played c.post_by.ensures.given c.post_by.ensures.played

pub returns-clause-exact : goal.returns-clause-exact
returns-clause-exact g c = gives_none _ _ c.args.pass.now _ c.waiting-waiting.ensures.saw c.post_by.ensures.given c.waiting-waiting.ensures.none c.args.pass.now.outside (permits_are _ _ _ c.permits_for.ensures.one c.permits_for.ensures.all).1
