use Rattle.draw_story.proofs.Names.{ℕ, List, [], ◌∷◌, ◌++◌, refl, arith, ◌∙◌, ap, map, map-append, string_bytes}
use Rattle.text_trace.proofs.EachLaws.{made_more, made_all}
use Rattle.text_trace.proofs.SeveralLaws.{item_there}
use Rattle.draw_story.specs.Story.{ShownObject, object_shown, object_named, object_at}
use Rattle.draw_story.proofs.several.objects_of.Goals.{in-Some+in_ok-object_of+in_ok-push, in_default}
use Rattle.draw_story.proofs.several.objects_of.Goals as goal

pub loop-object-init : goal.loop-object-init
loop-object-init g c parties stands = rw c.new-objects.ensures.items refl

pub loop-object-preserved : goal.loop-object-preserved
loop-object-preserved g c parties stands =
    let z = g.T.AtomicInteger.arithmetic in
    let objects = c.args.setting.now.objects.now in
    let before = map object_shown c.loop-object.objects.items in
    elim c.match-machine.branch [
      | in-Some+in_ok-object_of+in_ok-push w ↦
          let of = w.in-Some.ensures objects parties [] stands in
          made_more (object_at z (map string_bytes c.args.setting.now.shown.now)) objects c.loop-object.object of.0 of.0 [] before _ c.loop-object-test.true (item_there objects c.loop-object.object of.0 of.1) (c.loop-object.invariant parties stands)
          (rw w.objects-is (ap (map object_shown) w.in_ok-push.ensures.items ∙ map-append object_shown c.loop-object.objects.items (w.in_ok-object_of.field-0 ∷ [])
          ∙ ap (λ (shown : ShownObject g.row.T.Denot). before ++ shown ∷ []) (w.in_ok-object_of.ensures of.0 parties of.2 ∙ ap (λ (name : List ℕ). object_named z name of.0) w.text_at-name.ensures)))
      | in_default w ↦ absurd (omega (arith, c.loop-object-test.true, w.in_default.ensures objects parties [] stands))
    ]

pub returns : goal.returns
returns g c parties stands =
    made_all (object_at g.T.AtomicInteger.arithmetic (map string_bytes c.args.setting.now.shown.now)) c.args.setting.now.objects.now c.loop-object.object [] _ (omega (arith, c.loop-object-test.false)) (c.loop-object.invariant parties stands)
