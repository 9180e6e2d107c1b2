use Rattle.running_rw_writer.specs.RwWriterShown.{HasStayed}
use Rattle.test_locks.proofs.tests.rwwriter.write_often.Given as goal

abbrev pub invariant-loop : goal.invariant-loop
invariant-loop g l = HasStayed l.fn.pass l.pass
