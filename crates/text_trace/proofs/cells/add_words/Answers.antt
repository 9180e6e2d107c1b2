use Rattle.text_trace.proofs.CellLaws.{words_added}
use Rattle.text_trace.proofs.cells.add_words.Goals as goal

pub returns : goal.returns
returns g c o parties past stands = words_added c.args.texts.now.items _ _ _ _ c.new-text.ensures.bytes (c.in_ok-print_words.ensures o parties past stands) c.in_ok-push.ensures.items
