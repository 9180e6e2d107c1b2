use Rattle.running_rw_value.proofs.lock.RwLock.unlock_read.Goals as goal

pub returns-clause-woke : goal.returns-clause-woke
returns-clause-woke g c = c.unlock.ensures.woke_one tt
