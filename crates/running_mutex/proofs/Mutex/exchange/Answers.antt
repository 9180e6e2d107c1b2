use Rattle.running_mutex.proofs.Names.{zero_or_not, mutex_is_for_one, tried_alone, view, mutex_model}
use Rattle.running_mutex.proofs.MutexKeeps.{exchanges, tries}
use Rattle.running_mutex.proofs.Mutex.exchange.Goals as goal

pub exchange-found-requires-clause-may : goal.exchange-found-requires-clause-may
exchange-found-requires-clause-may g c = c.requires.may _ c.locked.ensures

pub returns-clause-locked : goal.returns-clause-locked
returns-clause-locked g c = tries _ _ _ c.args.turn.pass.now (c.requires.may _ c.locked.ensures) c.exchange-found.result.1.pass.now c.exchange-found.ensures.same c.exchange-found.ensures.stepped.acted.share c.exchange-found.ensures.stepped.acted.told

pub returns-clause-tried : goal.returns-clause-tried
returns-clause-tried g c = (c.exchange-found.result.0, zero_or_not _, c.exchange-found.ensures.stepped.went)

pub returns-clause-exact : goal.returns-clause-exact
returns-clause-exact g c = λ alone. tried_alone mutex_model mutex_is_for_one _ _ (exchanges _) _ _ (view c.args.turn.pass.now) (c.requires.may _ c.locked.ensures) c.exchange-found.ensures.stepped.acted.share alone.0 alone.1
