use Rattle.sync_play.proofs.PrintLaws.{last_printed}
use Rattle.sync_play.proofs.print.print_last.Goals as goal

pub returns : goal.returns
returns g c =
    λ o parties past stands. last_printed g.T.AtomicInteger.arithmetic g.T.TextInteger.numerals c.writeln.result o past c.word-word.result c.failed-failed.result _ _ _ _
    (c.word-word.ensures o parties past stands) (c.failed-failed.ensures o parties past stands)
    c.in_ok-write.ensures.bytes (c.in_ok-print_further_words.ensures o parties past stands) c.writeln.ensures.bytes
