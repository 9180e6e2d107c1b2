use Rattle.running_atomic.proofs.Names.{Call, Answer, HoldKind, HasEnded, parties_of, key_of, Some, None, sym, subst, atomic_model}
use Rattle.running_atomic.proofs.AtomicPlays.{may_read_low, reads_low, may_read_high, reads_high, may_leave_reading, leaves_reading}
use Rattle.running_atomic.proofs.calls.Atomic.read.Goals as goal

pub read_low-low-requires-clause-may : goal.read_low-low-requires-clause-may
read_low-low-requires-clause-may g c κs within = may_read_low _ _ Call.Load (Some HoldKind.Read) _ _ c.requires.at.1

pub end_load-high-requires-clause-may : goal.end_load-high-requires-clause-may
end_load-high-requires-clause-may g c κs within = may_read_high _ _ Call.Load _ (Some HoldKind.Read) _ _ (reads_low _ _ Call.Load (Some HoldKind.Read) _ _ _ _ c.requires.at.1 c.read_low-low.ensures.went)

pub end_load-high-requires-clause-loads : goal.end_load-high-requires-clause-loads
end_load-high-requires-clause-loads g c κs within = (c.read_low-low.result.0, record { hold = Some HoldKind.Read; done = _; at = reads_low _ _ Call.Load (Some HoldKind.Read) _ _ _ _ c.requires.at.1 c.read_low-low.ensures.went })

pub leave_read-last-requires-clause-may : goal.leave_read-last-requires-clause-may
leave_read-last-requires-clause-may g c κs within = may_leave_reading _ _ Call.Load _ _ _ (reads_high _ _ Call.Load _ _ (Some HoldKind.Read) _ _ _ (reads_low _ _ Call.Load (Some HoldKind.Read) _ _ _ _ c.requires.at.1 c.read_low-low.ensures.went) c.end_load-high.ensures.went)

pub returns-clause-ended : goal.returns-clause-ended
returns-clause-ended g c = λ done at. subst (λ x. HasEnded (atomic_model g.T.AtomicInteger.arithmetic (key_of c.args.self.now.stage)) Call.Load (Answer.Value x) None done (parties_of c.leave_read-last.result.pass.now)) (sym c.from_words.ensures.given)
    (leaves_reading _ _ Call.Load _ done _ _ _ (reads_high _ _ Call.Load _ _ (Some HoldKind.Read) done _ _ (reads_low _ _ Call.Load (Some HoldKind.Read) done _ _ _ at c.read_low-low.ensures.went) c.end_load-high.ensures.went) c.leave_read-last.ensures.went.1)
