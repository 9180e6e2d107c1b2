use Rattle.running_passes.proofs.Names.{sym, ap, subst, Part, AddUp}
use Rattle.running_passes.proofs.Parts.{splits_weight}
use Rattle.running_passes.proofs.Steps.{splits}
use Rattle.running_passes.proofs.pass.Pass.split.Goals as goal

pub split_seat-other-requires : goal.split_seat-other-requires
split_seat-other-requires g c = (c.requires.own, c.args.of.now.some_word, splits _ _ g.T.Tally.core g.T.Tally.adds_up _ _ _ c.args.self.alive)

pub returns-clause-weights : goal.returns-clause-weights
returns-clause-weights g c = let e = c.split_seat-other.ensures in let p = c.args.self.seat.me.0.part in
    subst (λ (x : Part × Part). AddUp p x.0 x.1) (λ i. (sym (ap (λ me. me.0.part) e.2) i, sym (ap (λ me. me.0.part) e.4) i)) (splits_weight p)
