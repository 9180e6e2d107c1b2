use Rattle.text_trace.proofs.Names.{rules, texts_of}
use Rattle.text_trace.proofs.TraceLaws.{walks_on}
use Rattle.text_trace.proofs.trace.add_steps.Goals as goal

pub loop-stride-preserved : goal.loop-stride-preserved
loop-stride-preserved g c = (
  c.in-Ok-Some.ensures.countable,
  λ past stands. walks_on g.T.AtomicInteger.arithmetic g.T.TextInteger.numerals c.args.most c.args.header past c.args.rest.now c.loop-stride.rest c.next_stride.new.rest c.args.rows.now.items c.loop-stride.rows.items c.add.new.rows.items c.trim.new.rows.items c.loop-stride.machine c.next_stride.new.machine _ c.in-Ok-Some.stride
      (texts_of c.in_ok-cells-in-Ok-Some.cells) c.in-Ok-Some.field-0-is (c.loop-stride.invariant.1 past stands) c.in-Ok-Some.ensures.stride c.in-Ok-Some.ensures.quiet (λ here at. c.in_ok-cells-in-Ok-Some.ensures here at) c.in_ok-add-in-Ok-Some.ensures c.in_ok-trim-in-Ok-Some.ensures,
)

pub returns-in-Err-clause-added : goal.returns-in-Err-clause-added
returns-in-Err-clause-added g c = search rules
