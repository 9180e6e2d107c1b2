use Rattle.sync_play.specs.Names.{lines_of, values_in}
use Rattle.sync_play.proofs.FaultsAreRefusals.{text_refused, text_fails}
use Rattle.sync_play.proofs.law.faults_are_refusals.Goals as goal

pub returns-clause-faults : goal.returns-clause-faults
returns-clause-faults c = λ text fault. text_refused (values_in text).arithmetic (values_in text).numerals (values_in text).reads (lines_of text) fault

pub returns-clause-refusals : goal.returns-clause-refusals
returns-clause-refusals c = λ text fault. text_fails (values_in text).arithmetic (values_in text).numerals (values_in text).reads (lines_of text) fault.line fault.fault
