use Rattle.std.proofs.Common.{refl}
use Rattle.running_rw_value.proofs.lock.RwLock.write.Goals as goal

pub returns-else-enter_to_write : goal.returns-else-enter_to_write
returns-else-enter_to_write g c = let failed = c.enter_to_write.ensures in let no = c.if-enter_to_write.false in (
  (refl, λ _. tt, (failed.refused no, failed.woke no, failed.gave_up no)),
  record {
    refused = tt;
    same_borrow = tt;
    granted = tt;
    free = tt;
    played = tt;
    exact = λ alone. let entered = failed.exact alone in cc;
    aborted = failed.aborted no;
  },
)
