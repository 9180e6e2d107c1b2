use Rattle.text_room.proofs.Names.{◌∙◌, refl, rules, arith, ◌+◌, map, lines_of}
use Rattle.std.proofs.Math.Nat.{le_refl}
use Rattle.text_room.proofs.WalkLaws.{walk_strides, walk_stands, walk_stops, walk_passes, pass_stands, lines_end, lines_go_on, lines_stop, fewer_left, fewer_steps}
use Rattle.text_room.proofs.walk.next_stride.Goals as goal

pub loop-found-init : goal.loop-found-init
loop-found-init g c = (c.requires.countable, le_refl _, λ parties past stands. (refl, stands))

pub returns-in-Ok-Some-clause-stride : goal.returns-in-Ok-Some-clause-stride
returns-in-Ok-Some-clause-stride g c parties past stands =
    let here = c.loop-found.invariant.2 parties past stands in
    let turn = c.in-Ok-Some.ensures.turn c.args.objects.now parties past here.1 in
    let left = c.loop-found.rest.left in (
      here.0 ∙ walk_strides g.T.AtomicInteger.arithmetic g.T.TextInteger.numerals (map (λ name. name.now) c.args.names.now) c.args.objects.now parties c.loop-found.rest.line past left c.next_events.new.left c.loop-found.rest.lines.now _ c.in-Ok-Some.found _ c.in-Ok-Some.field-0-is turn,
      walk_stands g.T.AtomicInteger.arithmetic g.T.TextInteger.numerals (map (λ name. name.now) c.args.names.now) c.args.objects.now parties past left c.next_events.new.left _ c.in-Ok-Some.found _ c.in-Ok-Some.field-0-is turn,
    )

pub returns-in-Err-clause-stride : goal.returns-in-Err-clause-stride
returns-in-Err-clause-stride g c parties past stands =
    let here = c.loop-found.invariant.2 parties past stands in
    here.0 ∙ walk_stops g.T.AtomicInteger.arithmetic g.T.TextInteger.numerals (map (λ name. name.now) c.args.names.now) c.args.objects.now parties c.loop-found.rest.line past c.loop-found.rest.left c.next_events.new.left c.loop-found.rest.lines.now c.in-Err.fault c.next_events.new.room (c.in-Err.ensures.turn c.args.objects.now parties past here.1)

pub returns-in_default-clause-stride : goal.returns-in_default-clause-stride
returns-in_default-clause-stride g c parties past stands =
    let here = c.loop-found.invariant.2 parties past stands in
    let turn = c.in-Ok-None.ensures.turn c.args.objects.now parties past here.1 in
    let number = c.loop-found.rest.line in
    let left = c.loop-found.rest.left in
    let lines = c.loop-found.rest.lines.now in (
      here.0 ∙ walk_passes g.T.AtomicInteger.arithmetic g.T.TextInteger.numerals (map (λ name. name.now) c.args.names.now) c.args.objects.now parties number past left c.next_events.new.left lines _ _ c.in-Ok-None.field-0-is turn ∙ lines_end g.T.AtomicInteger.arithmetic g.T.TextInteger.numerals (map (λ name. name.now) c.args.names.now) c.args.objects.now parties (number + 1) past (lines_of lines) (search rules),
      pass_stands g.T.AtomicInteger.arithmetic g.T.TextInteger.numerals (map (λ name. name.now) c.args.names.now) c.args.objects.now parties past left c.next_events.new.left _ _ c.in-Ok-None.field-0-is turn,
    )

pub overflow_add-rest : goal.overflow_add-rest
overflow_add-rest g c = omega (arith, c.loop-found.invariant.0, c.in-Some.ensures.shorter)

pub loop-found-preserved : goal.loop-found-preserved
loop-found-preserved g c = (
  omega (arith, c.loop-found.invariant.0, c.in-Some.ensures.shorter),
  fewer_left _ _ _ _ _ c.loop-found.invariant.1 c.in-Some.ensures.shorter c.in-Ok.ensures.within,
  λ parties past stands.
      let here = c.loop-found.invariant.2 parties past stands in
      let turn = c.in-Ok-None.ensures.turn c.args.objects.now parties past here.1 in
      let number = c.loop-found.rest.line in
      let left = c.loop-found.rest.left in
      let lines = c.loop-found.rest.lines.now in
      let there = pass_stands g.T.AtomicInteger.arithmetic g.T.TextInteger.numerals (map (λ name. name.now) c.args.names.now) c.args.objects.now parties past left c.next_events.new.left _ c.next_events.new.room c.in-Ok-None.field-0-is turn in (
        here.0 ∙ walk_passes g.T.AtomicInteger.arithmetic g.T.TextInteger.numerals (map (λ name. name.now) c.args.names.now) c.args.objects.now parties number past left c.next_events.new.left lines _ _ c.in-Ok-None.field-0-is turn
            ∙ lines_go_on g.T.AtomicInteger.arithmetic g.T.TextInteger.numerals (map (λ name. name.now) c.args.names.now) c.args.objects.now parties (number + 1) past (lines_of lines) c.in-Some.line.now c.in-Some.lines.now c.in-Ok.command c.in-Some.ensures.lines
            c.in-Ok.ensures.asked,
        there,
      ),
)

pub returns-in-Err-asked-clause-stride : goal.returns-in-Err-asked-clause-stride
returns-in-Err-asked-clause-stride g c parties past stands =
    let here = c.loop-found.invariant.2 parties past stands in
    let turn = c.in-Ok-None.ensures.turn c.args.objects.now parties past here.1 in
    let number = c.loop-found.rest.line in
    let left = c.loop-found.rest.left in
    let lines = c.loop-found.rest.lines.now in
    let there = pass_stands g.T.AtomicInteger.arithmetic g.T.TextInteger.numerals (map (λ name. name.now) c.args.names.now) c.args.objects.now parties past left c.next_events.new.left _ c.next_events.new.room c.in-Ok-None.field-0-is turn in
    here.0 ∙ walk_passes g.T.AtomicInteger.arithmetic g.T.TextInteger.numerals (map (λ name. name.now) c.args.names.now) c.args.objects.now parties number past left c.next_events.new.left lines _ _ c.in-Ok-None.field-0-is turn
    ∙ lines_stop g.T.AtomicInteger.arithmetic g.T.TextInteger.numerals (map (λ name. name.now) c.args.names.now) c.args.objects.now parties (number + 1) past (lines_of lines) c.in-Some.line.now c.in-Some.lines.now c.in-Err-asked.fault c.in-Some.ensures.lines
    c.in-Err-asked.ensures.asked

pub returns-in-Err-asked-clause-countable : goal.returns-in-Err-asked-clause-countable
returns-in-Err-asked-clause-countable g c = omega (arith, c.loop-found.invariant.0, c.in-Some.ensures.shorter)

pub returns-in-Ok-Some-clause-fewer : goal.returns-in-Ok-Some-clause-fewer
returns-in-Ok-Some-clause-fewer g c = fewer_steps c.next_events.new.left c.loop-found.rest.left _ c.in-Ok-Some.found _ _ c.in-Ok-Some.field-0-is c.loop-found.invariant.1 c.in-Ok-Some.ensures.shorter
