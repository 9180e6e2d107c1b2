-- What contracts see of a poison error.
use Rattle.running_spin_lock.specs.declared.poison.PoisonError.{PoisonError}

abbrev pub guard_of : {T : Type 0} → PoisonError T → T
guard_of e = e.guard
