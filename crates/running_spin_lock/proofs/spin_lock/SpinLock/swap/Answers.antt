use Rattle.running_spin_lock.proofs.Names.{zero_or_not}
use Rattle.running_spin_lock.proofs.spin_lock.SpinLock.swap.Goals as goal

pub returns-clause-tried : goal.returns-clause-tried
returns-clause-tried g c = (c.swap-found.result.0, zero_or_not _, c.swap-found.ensures.stepped.went)
