use Rattle.std.proofs.Common.{◌≡◌, ℕ, ◌+◌, ap, arith}
use Rattle.running_passes.specs.declared.part.Part.{Part}
use Rattle.running_passes.specs.declared.view.View.{View}
use Rattle.running_passes.specs.Parts.{IsWhole, AddUp}
use Rattle.running_passes.proofs.Parts.{weight_whole, whole_weighs}
use Rattle.running_mutex.specs.MutexSteps.{PlayedMutex}
use Rattle.test_locks.proofs.tests.mutex.part_in_four_and_join.Goals as goal

-- four parts weigh together what the whole does, at a depth that none of the passes goes below
whole_again : (p left right one two three four ab abc all : Part) → AddUp p left right → AddUp left one two → AddUp right three four → AddUp ab one two → AddUp abc ab three → AddUp all abc four → IsWhole p → IsWhole all
whole_again p left right one two three four ab abc all parts lefts rights first second third is =
    let j : ℕ = p.depth + left.depth + right.depth + one.depth + two.depth + three.depth + four.depth + ab.depth + abc.depth + all.depth in
    whole_weighs all j (omega arith) (omega (
      arith,
      weight_whole p j (omega arith) is,
      parts.weighs j (omega arith) (omega arith) (omega arith),
      lefts.weighs j (omega arith) (omega arith) (omega arith),
      rights.weighs j (omega arith) (omega arith) (omega arith),
      first.weighs j (omega arith) (omega arith) (omega arith),
      second.weighs j (omega arith) (omega arith) (omega arith),
      third.weighs j (omega arith) (omega arith) (omega arith),
    ))

holds_in : (v w : View PlayedMutex) → v ≡ w → v.tally.counts.holds ≡ w.tally.counts.holds
holds_in v w same = ap (λ (u : View PlayedMutex). u.tally.counts.holds) same

pub returns-clause-alone : goal.returns-clause-alone
returns-clause-alone c =
    let parts = c.in-Ok.ensures in let lefts = c.in-Ok-split.ensures in let rights = c.in-Ok-split-2.ensures in
    let first = c.in-Ok-join.ensures in let second = c.in-Ok-join-2.ensures in let third = c.in-Ok-join-3.ensures in (
      whole_again _ _ _ _ _ _ _ _ _ _ parts.weights lefts.weights rights.weights first.weights second.weights third.weights c.requires.alone.0,
      omega (
        arith,
        c.requires.alone.1,
        holds_in _ _ parts.views.0,
        holds_in _ _ parts.views.1,
        holds_in _ _ lefts.views.0,
        holds_in _ _ lefts.views.1,
        holds_in _ _ rights.views.0,
        holds_in _ _ rights.views.1,
        holds_in _ _ first.views,
        holds_in _ _ second.views,
        holds_in _ _ third.views,
      ),
    )
