use Rattle.running_passes.proofs.Names.{sym, ap, subst, IsAgain, AddUp}
use Rattle.running_passes.proofs.Parts.{parts_again, joins_weight}
use Rattle.running_passes.proofs.Steps.{joins}
use Rattle.running_passes.proofs.pass.Pass.join.Goals as goal

pub join_seat-requires : goal.join_seat-requires
join_seat-requires g c = (c.requires.own.0, c.requires.own.1, c.args.b.no_slot, c.args.of.now.some_word, joins _ _ g.T.Tally.core g.T.Tally.adds_up _ _ _ _ _ c.args.a.alive)

pub returns-clause-again : goal.returns-clause-again
returns-clause-again g c = λ p first second. subst (IsAgain p) (sym (ap (λ me. me.0.part) c.join_seat.ensures.2)) (parts_again _ _ p first second)

pub returns-clause-weights : goal.returns-clause-weights
returns-clause-weights g c = let a = c.args.a.seat.me.0.part in let b = c.args.b.seat.me.0.part in
    subst (λ p. AddUp p a b) (sym (ap (λ me. me.0.part) c.join_seat.ensures.2)) (joins_weight a b)
