-- Why a run of a program ended early, and what would be right.
use Rattle.std.specs.Prelude.{◌≡◌, None}
use Rattle.text_lines.specs.declared.fault.RunFault.{RunFault}
use Rattle.text_lines.specs.declared.fault.RunFault.TheVariants as runs
use Rattle.text_advice.specs.declared.failed.Failed.{Failed}

-- where this fault is not the text's, nothing is advised
abbrev pub AdvisesBy : RunFault → Failed → Type 0
AdvisesBy (runs.Text line fault) e = Unit {0}
AdvisesBy other e = e.advice ≡ None

abbrev pub AdvisesOnText : Failed → Type 0
AdvisesOnText e = AdvisesBy e.fault e
