use Rattle.std.proofs.Common.{◌∙◌, refl, sym, ap, subst, arith}
use Rattle.running_passes.specs.Parts.{IsWhole}
use Rattle.model_events.specs.Integers.{u128_arithmetic}
use Rattle.running_atomic.specs.Additions.{after_adding}
use Rattle.running_atomic.proofs.Additions.{sum_of_additions, sum_wide}
use Rattle.demo_shared_sum.specs.declared.TheConstants.{STEP}
use Rattle.demo_shared_sum.proofs.sum_of_four.Goals as goal

pub returns : goal.returns
returns g c =
    let new = c.in_ok-number.ensures in let four = c.add_by_four-pass.ensures in
    let whole = four.again.whole (subst (λ v. IsWhole v.part) (sym new.first) refl) in record {
      sum = sum_of_additions STEP u128_arithmetic 4000 _ _ c.add_by_four-pass.result whole c.into_inner.ensures.last four.added ∙ ap (after_adding u128_arithmetic STEP 4000) new.opening ∙ sum_wide STEP 4000 0 (omega arith);
    }
