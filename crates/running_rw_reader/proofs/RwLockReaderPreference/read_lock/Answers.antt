use Rattle.running_rw_reader.proofs.Names.{refl}
use Rattle.running_rw_reader.proofs.RwLockReaderPreference.read_lock.Goals as goal

pub returns-else-wait_to_read : goal.returns-else-wait_to_read
returns-else-wait_to_read g c = (
  (refl, λ _. tt, (c.if-wait_to_read.ensures.entered, λ whole. c.wait_to_read.ensures.asked whole c.if-wait_to_read.false, c.if-wait_to_read.ensures.played)),
  record {
    refused = tt;
    same_borrow = tt;
    kind = tt;
    granted = tt;
    played = tt;
    exact = λ alone. let entered = c.wait_to_read.ensures.exact alone in let not = c.if-wait_to_read.false in cc;
    aborted = c.wait_to_read.ensures.aborted c.if-wait_to_read.false;
  },
)
