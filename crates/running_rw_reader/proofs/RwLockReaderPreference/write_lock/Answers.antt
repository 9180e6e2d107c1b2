use Rattle.running_rw_reader.proofs.Names.{refl}
use Rattle.running_rw_reader.proofs.RwLockReaderPreference.write_lock.Goals as goal

pub returns-else-wait_to_write : goal.returns-else-wait_to_write
returns-else-wait_to_write g c = (
  (refl, λ _. tt, (c.if-wait_to_write.ensures.entered, c.if-wait_to_write.ensures.played)),
  record {
    refused = tt;
    same_borrow = tt;
    kind = tt;
    granted = tt;
    played = tt;
    exact = λ alone. let entered = c.wait_to_write.ensures.exact alone in let not = c.if-wait_to_write.false in cc;
    aborted = c.wait_to_write.ensures.aborted c.if-wait_to_write.false;
  },
)
