use Rattle.text_trace.proofs.Names.{◌≡◌, ◌∙◌, ℕ, suc, ◌+◌, ◌++◌, List, [], ◌∷◌, ap, refl, arith, decimal}
use Rattle.own_play.specs.Output.{value_at}
use Rattle.text_trace.proofs.CellLaws.{words_added}
use Rattle.text_trace.proofs.own.add_words.Goals as goal

pub loop-place-preserved : goal.loop-place-preserved
loop-place-preserved c =
    let k = c.loop-place.place in
    let next : k + 1 ≡ suc k = omega arith in (
      omega (arith, c.loop-place-test.true),
      rw next (words_added c.loop-place.texts.items _ _ [] _ refl c.in_ok-value_text.ensures c.in_ok-push.ensures.items ∙ ap (λ (l : List (List ℕ)). l ++ decimal (value_at c.args.words.now k) ∷ []) c.loop-place.invariant.1),
    )
