use Rattle.sync_play.specs.Names.{lines_of, values_in}
use Rattle.sync_play.proofs.RunsAreOutputs.{runs_are_outputs}
use Rattle.sync_play.proofs.OutputsAreRuns.{outputs_are_runs}
use Rattle.sync_play.proofs.law.outputs_are_runs.Goals as goal

pub returns-clause-outputs : goal.returns-clause-outputs
returns-clause-outputs c = λ text bytes. outputs_are_runs (values_in text).arithmetic (values_in text).numerals (values_in text).reads (lines_of text) bytes

pub returns-clause-runs : goal.returns-clause-runs
returns-clause-runs c = λ text bytes. runs_are_outputs (values_in text).arithmetic (values_in text).numerals (lines_of text) bytes
