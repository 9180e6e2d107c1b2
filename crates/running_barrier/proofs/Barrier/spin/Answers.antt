use Rattle.running_barrier.proofs.Names.{parties_of, ◌≡◌, ℕ, rules, subst, Looks, waiters_of}
use Rattle.running_barrier.proofs.BarrierPlays.{may_stay, looks, looks_no_more, spins_on}
use Rattle.running_barrier.proofs.Barrier.spin.Goals as goal

pub look-first-requires-clause-may : goal.look-first-requires-clause-may
look-first-requires-clause-may g c = may_stay _ _ 0 c.requires.comes.0 _ c.requires.comes.1

pub loop-init : goal.loop-init
loop-init g c = record {
  same_borrow = search rules;
  stayed = search rules;
  looked = search rules;
  epoch = search rules;
  all = search rules;
  looks = λ done at. looks _ _ 0 _ done _ _ at c.look-first.ensures.went;
}

pub returns-then-epoch_of-own_epoch-clause-looks : goal.returns-then-epoch_of-own_epoch-clause-looks
returns-then-epoch_of-own_epoch-clause-looks g c = λ done at. looks_no_more _ _ c.loop.counter 10000 _ done _ (search rules) (c.loop.invariant.looks done at)

pub look-found-requires-clause-may : goal.look-found-requires-clause-may
look-found-requires-clause-may g c = let comes = c.requires.comes in
    may_stay _ _ _ comes.0 _ (spins_on _ _ c.loop.counter _ comes.0 _ (search rules) (search rules) (c.loop.invariant.looks comes.0 comes.1))

pub loop-preserved : goal.loop-preserved
loop-preserved g c = record {
  same_borrow = search rules;
  stayed = search rules;
  looked = search rules;
  epoch = search rules;
  all = search rules;
  looks = λ done at. looks _ _ _ _ done _ _ (spins_on _ _ c.loop.counter _ done _ (search rules) (search rules) (c.loop.invariant.looks done at)) c.look-found.ensures.went;
}

pub returns-clause-looks : goal.returns-clause-looks
returns-clause-looks g c = λ done at. let all : c.loop.counter ≡ 10000 = search rules in
    subst (λ (k : ℕ). Looks (waiters_of c.args.self.now) c.args.own_epoch k c.loop.seen done (parties_of c.loop.next.pass.now)) all (c.loop.invariant.looks done at)
