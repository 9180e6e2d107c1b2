use Rattle.text_trace.proofs.Names.{texts_of}
use Rattle.text_trace.proofs.SeveralLaws.{walks_on}
use Rattle.text_trace.proofs.several.add_steps.Goals as goal

pub loop-stride-preserved : goal.loop-stride-preserved
loop-stride-preserved g c = (
  c.in-Ok-Some.ensures.countable,
  λ past stands. walks_on g.T.AtomicInteger.arithmetic g.T.TextInteger.numerals c.args.most c.args.setting.now past c.args.rest.now c.loop-stride.rest c.next_stride.new.rest c.args.rows.now.items c.loop-stride.rows.items c.add.new.rows.items c.trim.new.rows.items c.loop-stride.room c.next_stride.new.room _ c.in-Ok-Some.stride
      (texts_of c.in_ok-cells-in-Ok-Some.cells) c.in-Ok-Some.field-0-is (c.loop-stride.invariant.1 past stands) c.in-Ok-Some.ensures.stride c.in-Ok-Some.ensures.quiet (λ here at. c.in_ok-cells-in-Ok-Some.ensures here at) c.in_ok-add-in-Ok-Some.ensures c.in_ok-trim-in-Ok-Some.ensures,
)
