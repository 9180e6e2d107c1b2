use Rattle.running_semaphore.proofs.Names.{Call}
use Rattle.running_semaphore.proofs.Semaphore.post_by.Given as goal

abbrev pub ghosts-add : goal.ghosts-add
ghosts-add g a = record { call = Call.Post a.value }
