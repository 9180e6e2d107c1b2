use Rattle.running_atomic.proofs.calls.Atomic.exchange.Given as goal

-- the call is the one that is handed in
abbrev pub ghosts-write_lock : goal.ghosts-write_lock
ghosts-write_lock g a = record { call = a.call.now }

abbrev pub ghosts-compare : goal.ghosts-compare
ghosts-compare g a = record { call = a._call.now }
