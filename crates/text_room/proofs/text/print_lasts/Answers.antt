use Rattle.text_room.proofs.Names.{◌∙◌, sym, append-nil, map, slice_get-get_or, arith}
use Rattle.text_room.proofs.LastLaws.{prints_one, prints_no_last, prints_all, got_mapped, length_mapped}
use Rattle.text_room.proofs.text.print_lasts.Goals.{in-Some+in_ok-print_last_of, in_default}
use Rattle.text_room.proofs.text.print_lasts.Goals as goal

pub loop-object-preserved : goal.loop-object-preserved
loop-object-preserved g c objects parties past stands =
    let k = c.loop-object.object in
    let before = c.loop-object.invariant objects parties past stands in
    elim c.match-machine.branch [
      | in-Some+in_ok-print_last_of w ↦
          let there = w.in-Some.ensures objects parties past stands in
          rw w.out-is (prints_one g.T.AtomicInteger.arithmetic g.T.TextInteger.numerals (map (λ name. name.now) c.args.names.now) objects past k c.args.out.now.items c.loop-object.out.items _ _
          (got_mapped (λ name. name.now) c.args.names.now k _ (slice_get-get_or c.args.names.now k _ (omega arith)))
          (there.0, there.1, w.in_ok-print_last_of.ensures there.0 parties _ there.2) before)
      | in_default w ↦
          rw w.out-is (prints_no_last g.T.AtomicInteger.arithmetic g.T.TextInteger.numerals (map (λ name. name.now) c.args.names.now) objects past k c.args.out.now.items c.loop-object.out.items (w.in_default.ensures objects parties past stands) before)
    ]

pub returns : goal.returns
returns g c objects parties past stands =
    let names = map (λ name. name.now) c.args.names.now in
    sym (append-nil c.loop-object.out.items)
    ∙ prints_all g.T.AtomicInteger.arithmetic g.T.TextInteger.numerals names objects past c.loop-object.object c.args.out.now.items c.loop-object.out.items
    (rw (length_mapped (λ name. name.now) c.args.names.now) (omega (arith, c.loop-object-test.false))) (c.loop-object.invariant objects parties past stands)
