use Rattle.text_trace.proofs.Names.{◌∙◌, ap, sym, subst, arith, List, ℕ, map, string_bytes, Object, holders}
use Rattle.sync_steps.specs.Machine.{StandsAt}
use Rattle.model_room.specs.Runs.{events_of}
use Rattle.text_trace.proofs.SeveralLaws.{prints_holders, prints_all_holders, index_there}
use Rattle.text_trace.proofs.several.print_all_holders.Goals.{in-Some+in_ok-print_holders, in_default}
use Rattle.text_trace.proofs.several.print_all_holders.Goals as goal

pub loop-object-preserved : goal.loop-object-preserved
loop-object-preserved g c past stands =
    let k = c.loop-object.object in
    let names = map string_bytes c.args.names.now in
    let text = string_bytes c.loop-object.text in
    let there = events_of k past in
    let z = g.T.AtomicInteger.arithmetic in
    elim c.match-machine.branch [
      | in-Some+in_ok-print_holders w ↦
          let of = w.in-Some.ensures c.args.objects.now c.args.parties past stands in
          let same = index_there c.args.objects.now k of.0 _ _ c.loop-object-test.true of.1 w.index-objects-object.is in
          prints_holders z names c.args.objects.now c.args.parties past k text _ of.0 of.1 (c.loop-object.invariant past stands)
          (ap string_bytes w.text-is ∙ w.in_ok-print_holders.ensures there (subst (λ (o : Object g.row.T.Denot). StandsAt z o c.args.parties there w.in-Some.machine.now) same of.2)
          ∙ ap (λ (o : Object g.row.T.Denot). holders z o w.text_at-name.result.now text there c.args.parties) (sym same) ∙ ap (λ (name : List ℕ). holders z of.0 name text there c.args.parties) w.text_at-name.ensures)
      | in_default w ↦ absurd (omega (arith, c.loop-object-test.true, w.in_default.ensures c.args.objects.now c.args.parties past stands))
    ]

pub returns : goal.returns
returns g c past stands =
    prints_all_holders g.T.AtomicInteger.arithmetic (map string_bytes c.args.names.now) c.args.objects.now c.args.parties past c.loop-object.object (string_bytes c.loop-object.text) (omega (arith, c.loop-object-test.false)) (c.loop-object.invariant past stands)
