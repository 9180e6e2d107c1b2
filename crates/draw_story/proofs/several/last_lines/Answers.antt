use Rattle.draw_story.proofs.Names.{List, ℕ, [], Some, refl, sym, ap, ◌∙◌, arith, map, string_bytes}
use Rattle.std.proofs.lemmas.List.{append-nil}
use Rattle.std.proofs.lemmas.Option.{slice_get_read}
use Rattle.text_room.proofs.LastLaws.{prints_one, prints_no_last, prints_all, got_mapped, length_mapped}
use Rattle.draw_story.proofs.several.last_lines.Goals.{in-Some+in_ok-print_last_of, in_default}
use Rattle.draw_story.proofs.several.last_lines.Goals as goal

pub loop-object-init : goal.loop-object-init
loop-object-init g c objects parties past stands = rw c.new-last.ensures.bytes refl

pub loop-object-preserved : goal.loop-object-preserved
loop-object-preserved g c objects parties past stands =
    let z = g.T.AtomicInteger.arithmetic in
    let numerals = g.T.TextInteger.numerals in
    let names = map string_bytes c.args.names.now in
    let k = c.loop-object.object in
    let last = string_bytes c.loop-object.last in
    let before = c.loop-object.invariant objects parties past stands in
    elim c.match-machine.branch [
      | in-Some+in_ok-print_last_of w ↦
          let there = w.in-Some.ensures objects parties past stands in
          let item = w.index-names-object.result in
          let named = got_mapped string_bytes c.args.names.now k item (slice_get_read c.args.names.now _ k item refl c.loop-object-test.true w.index-names-object.is) ∙ ap (λ (name : List ℕ). Some name) (sym w.as_str.ensures.value) in
          rw w.last-is (prints_one z numerals names objects past k [] last _ _ named
          (there.0, there.1, w.in_ok-print_last_of.ensures there.0 parties _ there.2) before)
      | in_default w ↦ rw w.last-is (prints_no_last z numerals names objects past k [] last (w.in_default.ensures objects parties past stands) before)
    ]

pub returns : goal.returns
returns g c objects parties past stands =
    let names = map string_bytes c.args.names.now in
    let last = string_bytes c.loop-object.last in
    sym (append-nil last)
    ∙ prints_all g.T.AtomicInteger.arithmetic g.T.TextInteger.numerals names objects past c.loop-object.object [] last (rw (length_mapped string_bytes c.args.names.now) (omega (arith, c.loop-object-test.false))) (c.loop-object.invariant objects parties past stands)
