use Rattle.sync_play.specs.Names.{codes, string_bytes}
use Rattle.sync_play.proofs.PrintLaws.{pushed, line_printed}
use Rattle.sync_play.proofs.print.print_wake.Goals as goal

pub returns-in-One : goal.returns-in-One
returns-in-One g c = rw c.in-One.is (line_printed c.push_str.result c.args.party (codes "wakes one") _ _ _ c.in_ok-print_number.ensures (pushed _ (string_bytes c.print_number.new.out) (codes "wakes one\n") _ c.push_str.ensures.bytes))

pub returns-in-All : goal.returns-in-All
returns-in-All g c = rw c.in-All.is (line_printed c.push_str-in-All.result c.args.party (codes "wakes all") _ _ _ c.in_ok-print_number.ensures (pushed _ (string_bytes c.print_number.new.out) (codes "wakes all\n") _ c.push_str-in-All.ensures.bytes))
