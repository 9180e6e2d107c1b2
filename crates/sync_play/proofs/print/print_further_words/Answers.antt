use Rattle.sync_play.proofs.Names.{arith}
use Rattle.std.proofs.lemmas.Grind.{common_steps}
use Rattle.sync_play.proofs.print.print_further_words.Goals as goal

pub returns-in_ok-write-in-Atomic : goal.returns-in_ok-write-in-Atomic
returns-in_ok-write-in-Atomic g c = grind (arith, common_steps)
