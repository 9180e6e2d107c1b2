use Rattle.std.proofs.Common.{refl}
use Rattle.running_rw_value.proofs.lock.RwLock.try_read.Goals as goal

pub returns-else-try_to_read : goal.returns-else-try_to_read
returns-else-try_to_read g c = let failed = c.try_to_read.ensures in let no = c.if-try_to_read.false in (
  (refl, λ _. tt, (failed.refused no, failed.gave_up no)),
  record {
    refused = tt;
    same_borrow = tt;
    granted = tt;
    at_once = tt;
    played = tt;
    exact = λ alone. let entered = failed.exact alone in cc;
  },
)
