use Rattle.sync_play.specs.Names.{meaning_of}
use Rattle.sync_play.proofs.CallLaws.{calls_are_named, calls_are_read_back}
use Rattle.sync_play.proofs.law.calls_are_read_back.Goals as goal

pub returns-clause-named : goal.returns-clause-named
returns-clause-named c = λ values. calls_are_named

pub returns-clause-read : goal.returns-clause-read
returns-clause-read c = λ values. calls_are_read_back (meaning_of values).arithmetic (meaning_of values).numerals (meaning_of values).reads_back
