use Rattle.running_guarded.proofs.Names.{mutex_model, seen_instead, zero_or_not, tried, tried_alone, exchanges, mutex_is_for_one, carries_none, value_tried}
use Rattle.running_guarded.proofs.guarded.Guarded.exchange.Goals as goal

pub exchange-found-requires-clause-needs : goal.exchange-found-requires-clause-needs
exchange-found-requires-clause-needs g c = λ name found named. tt

pub exchange-found-requires-clause-carries : goal.exchange-found-requires-clause-carries
exchange-found-requires-clause-carries g c = carries_none _ _ c.requires.off c.requires.no_slot

pub returns-clause-locked : goal.returns-clause-locked
returns-clause-locked g c = let acted = c.exchange-found.ensures.stepped.acted in tried mutex_model mutex_is_for_one _ _ (exchanges 1) _ _ c.args.turn.seat.me.0 c.requires.may acted.share c.exchange-found.result.1.seat.me.0 acted.told

pub returns-clause-slot : goal.returns-clause-slot
returns-clause-slot g c = let acted = c.exchange-found.ensures.stepped.acted in
    value_tried _ (λ s. seen_instead s 0 1) c.args.turn.seat.me.0 c.exchange-found.result.1.seat.me.0 _ c.requires.off (tried mutex_model mutex_is_for_one _ _ (exchanges 1) _ _ c.args.turn.seat.me.0 c.requires.may acted.share c.exchange-found.result.1.seat.me.0 acted.told) c.exchange-found.ensures.carries

pub returns-clause-tried : goal.returns-clause-tried
returns-clause-tried g c = (c.exchange-found.result.0, zero_or_not _, c.exchange-found.ensures.stepped.went)

pub returns-clause-exact : goal.returns-clause-exact
returns-clause-exact g c = λ whole. tried_alone mutex_model mutex_is_for_one _ _ (exchanges 1) _ _ c.args.turn.seat.me.0 c.requires.may c.exchange-found.ensures.stepped.acted.share whole c.requires.off
