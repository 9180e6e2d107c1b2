use Rattle.text_trace.proofs.Names.{refl, arith, [], map, string_bytes}
use Rattle.text_trace.specs.Several.{words_there}
use Rattle.text_trace.proofs.EachLaws.{made_more, made_all}
use Rattle.text_trace.proofs.SeveralLaws.{item_there}
use Rattle.text_trace.proofs.several.add_all_words.Goals.{in-Some+in_ok-add_words, in_default}
use Rattle.text_trace.proofs.several.add_all_words.Goals as goal

pub loop-object-init : goal.loop-object-init
loop-object-init g c parties past stands = rw c.requires refl

pub loop-object-preserved : goal.loop-object-preserved
loop-object-preserved g c parties past stands =
    let k = c.loop-object.object in
    let words = words_there g.T.AtomicInteger.arithmetic g.T.TextInteger.numerals past in
    elim c.match-machine.branch [
      | in-Some+in_ok-add_words w ↦
          let of = w.in-Some.ensures c.args.objects.now parties past stands in
          made_more words c.args.objects.now k of.0 of.0 [] (map string_bytes c.loop-object.texts.items) _ c.loop-object-test.true (item_there c.args.objects.now k of.0 of.1) (c.loop-object.invariant parties past stands)
          (rw w.texts-is (w.in_ok-add_words.ensures of.0 parties _ of.2))
      | in_default w ↦ absurd (omega (arith, c.loop-object-test.true, w.in_default.ensures c.args.objects.now parties past stands))
    ]

pub returns : goal.returns
returns g c parties past stands =
    made_all (words_there g.T.AtomicInteger.arithmetic g.T.TextInteger.numerals past) c.args.objects.now c.loop-object.object [] _ (omega (arith, c.loop-object-test.false)) (c.loop-object.invariant parties past stands)
