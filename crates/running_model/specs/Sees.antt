-- What an act makes of what its pass saw, where each load, each exchange that failed and each swap that found what it puts is a sight, and all other
-- acts on a word are writes.
use Rattle.std.specs.Prelude.{true, false, if◌then◌else◌, ◌==◌}
use Rattle.running_model.specs.Names.{Act, Sights, seen, seen_instead, stale}

abbrev pub sights_after : {V : Type 0} → Act V → Sights → Sights
sights_after (Act.Load word found) s = seen s found
sights_after (Act.Exchange word from to found false) s = seen_instead s from found
sights_after (Act.Exchange word from to found true) s = stale s
sights_after (Act.Store word put) s = stale s
sights_after (Act.Swap word old put) s = if old == put then seen s old else stale s
sights_after (Act.Add word old put) s = stale s
sights_after other s = s
