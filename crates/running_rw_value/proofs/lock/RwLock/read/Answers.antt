use Rattle.std.proofs.Common.{refl}
use Rattle.running_rw_value.proofs.lock.RwLock.read.Goals as goal

pub returns-else-enter_to_read : goal.returns-else-enter_to_read
returns-else-enter_to_read g c = let failed = c.enter_to_read.ensures in let no = c.if-enter_to_read.false in (
  (refl, λ _. tt, (failed.refused no, failed.asked no, failed.gave_up no)),
  record {
    refused = tt;
    same_borrow = tt;
    granted = tt;
    played = tt;
    exact = λ alone. let entered = failed.exact alone in cc;
    aborted = failed.aborted no;
  },
)
