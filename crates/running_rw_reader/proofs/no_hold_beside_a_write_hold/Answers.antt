use Rattle.running_rw_reader.proofs.RwReaderKeeps.{none_beside}
use Rattle.running_rw_reader.proofs.no_hold_beside_a_write_hold.Goals as goal

pub returns : goal.returns
returns g = none_beside
