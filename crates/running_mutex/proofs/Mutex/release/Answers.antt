use Rattle.running_mutex.proofs.MutexKeeps.{stores}
use Rattle.running_mutex.proofs.MutexPlays.{may_unlock, unlocks}
use Rattle.running_mutex.proofs.Mutex.release.Goals as goal

pub store-requires-clause-may : goal.store-requires-clause-may
store-requires-clause-may g c = may_unlock _ c.requires.has

pub returns-clause-released : goal.returns-clause-released
returns-clause-released g c = stores _ c.args.turn.pass.now c.store.result.pass.now (may_unlock _ c.requires.has) c.store.ensures.same c.requires.on c.store.ensures.stepped.acted.told

pub returns-clause-played : goal.returns-clause-played
returns-clause-played g c = unlocks _ _ c.store.ensures.stepped.went
