use Rattle.running_atomic.proofs.calls.Atomic.fetch.Given as goal

-- the call is the one that is handed in
abbrev pub ghosts-write_lock : goal.ghosts-write_lock
ghosts-write_lock g a = record { call = a.call.now }

abbrev pub ghosts-take : goal.ghosts-take
ghosts-take g a = record { call = a._call.now }
