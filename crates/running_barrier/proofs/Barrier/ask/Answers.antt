use Rattle.running_barrier.proofs.Names.{sights_of, ◌≡◌, ◌+◌, [], ◌∷◌, refl, arith, parties_of, rules, sym, subst, Looks, waiters_of}
use Rattle.running_barrier.proofs.BarrierPlays.{leaves, stands_to_wait, may_look_on, looks_on}
use Rattle.running_barrier.proofs.Barrier.ask.Goals as goal

pub returns-then-epoch_of-own_epoch-clause-left : goal.returns-then-epoch_of-own_epoch-clause-left
returns-then-epoch_of-own_epoch-clause-left g c = λ done at. leaves _ _ 10000 _ done _ (search rules) (c.loop.invariant.looks done at)

pub tell-continued-requires-clause-stands : goal.tell-continued-requires-clause-stands
tell-continued-requires-clause-stands g c = let looks = c.requires.looks in stands_to_wait _ _ _ _ looks.0 _ (search rules) (search rules) (c.loop.invariant.looks looks.0 looks.1)

pub look-found-requires-clause-may : goal.look-found-requires-clause-may
look-found-requires-clause-may g c = let looks = c.requires.looks in may_look_on _ _ _ looks.0 _ (search rules)
    (subst (λ q. Looks (waiters_of c.args.self.now) c.args.own_epoch 10000 c.loop.seen looks.0 (parties_of q)) (sym c.tell-continued.ensures.still) (c.loop.invariant.looks looks.0 looks.1))

pub returns-then-epoch_of-own_epoch-clause-asked : goal.returns-then-epoch_of-own_epoch-clause-asked
returns-then-epoch_of-own_epoch-clause-asked g c = c.loop.invariant.asked _ _ (record { told = []; looks = omega arith; led = refl })

pub loop-preserved : goal.loop-preserved
loop-preserved g c = record {
  same_borrow = search rules;
  stayed = search rules;
  epoch = search rules;
  all = search rules;
  may = search rules;
  asked = λ after now rest. c.loop.invariant.asked after now (record { told = c.loop.seen ∷ rest.told; looks = let looked : (sights_of c.look-found.result.1.pass.now).count ≡ (sights_of c.loop.next.pass.now).count + 1 = search rules in omega (arith, looked, rest.looks); led = (_, (search rules, c.tell-continued.ensures.told), rest.led) });
  looks = λ done at. looks_on _ _ _ _ done _ _ (search rules)
      (subst (λ q. Looks (waiters_of c.args.self.now) c.args.own_epoch 10000 c.loop.seen done (parties_of q)) (sym c.tell-continued.ensures.still) (c.loop.invariant.looks done at)) c.look-found.ensures.went;
}
