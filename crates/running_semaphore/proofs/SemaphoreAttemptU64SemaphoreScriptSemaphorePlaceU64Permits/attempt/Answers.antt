use Rattle.running_semaphore.proofs.Names.{Waiting, MatchBool-at_true, MatchBool-at_false}
use Rattle.running_semaphore.proofs.SemaphorePlays.{may_try, may_look, looked}
use Rattle.running_semaphore.proofs.SemaphoreAttemptU64SemaphoreScriptSemaphorePlaceU64Permits.attempt.Goals as goal

pub look-seen-requires-clause-may : goal.look-seen-requires-clause-may
look-seen-requires-clause-may g c = may_look _ _ _ (may_try _ _ _ c.requires.comes)

pub take_from-took-requires-clause-at : goal.take_from-took-requires-clause-at
take_from-took-requires-clause-at g c = let w = may_try _ _ _ c.requires.comes in (w.wanting, w.done, looked _ _ _ _ _ c.look-seen.ensures.went w.wanting w.done w.comes)

pub returns-then-took-clause-granted : goal.returns-then-took-clause-granted
returns-then-took-clause-granted g c = λ patience done comes. MatchBool-at_true _ _ c.if-took.true (c.take_from-took.ensures.wanted (Waiting patience) done (looked _ _ _ _ _ c.look-seen.ensures.went (Waiting patience) done comes))

pub returns-else-took-clause-failed : goal.returns-else-took-clause-failed
returns-else-took-clause-failed g c = λ patience done comes. MatchBool-at_false _ _ c.if-took.false (c.take_from-took.ensures.wanted (Waiting patience) done (looked _ _ _ _ _ c.look-seen.ensures.went (Waiting patience) done comes))
