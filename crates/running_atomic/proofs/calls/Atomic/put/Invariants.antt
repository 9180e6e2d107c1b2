use Rattle.running_atomic.proofs.calls.Atomic.put.Given as goal

-- the act is the one that is handed in
abbrev pub ghosts-end_store : goal.ghosts-end_store
ghosts-end_store g a = record { act = a._act.now }
