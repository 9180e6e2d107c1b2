use Rattle.running_rw_writer.specs.RwWriterShown.{HasStayed}
use Rattle.test_values.proofs.tests.rw_value.threads.count_up.Given as goal

abbrev pub invariant-loop : goal.invariant-loop
invariant-loop g l = record { stayed : HasStayed l.fn.pass l.pass }
