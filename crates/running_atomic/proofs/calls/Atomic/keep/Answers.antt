use Rattle.running_atomic.proofs.AtomicPlays.{nothing_chosen, may_read_again, reads_again, may_leave, leaves}
use Rattle.running_atomic.proofs.calls.Atomic.keep.Goals as goal

pub end_unchanged-acted-requires-clause-may : goal.end_unchanged-acted-requires-clause-may
end_unchanged-acted-requires-clause-may g c κs within = may_read_again _ _ _ _ _ c.requires.knows.2

pub end_unchanged-acted-requires-clause-again : goal.end_unchanged-acted-requires-clause-again
end_unchanged-acted-requires-clause-again g c κs within = record { old = _; done = _; comes = nothing_chosen _ _ _ _ _ c.requires.knows.2 }

pub leave_write-requires-clause-may : goal.leave_write-requires-clause-may
leave_write-requires-clause-may g c κs within = may_leave _ _ _ _ _ _ (reads_again _ _ _ _ _ _ _ c.requires.knows.2 c.end_unchanged-acted.ensures.went.1)

pub returns-clause-played : goal.returns-clause-played
returns-clause-played g c = λ old done knows. leaves _ _ _ _ _ _ _ (reads_again _ _ _ _ _ _ _ knows c.end_unchanged-acted.ensures.went.1) c.leave_write.ensures.went
