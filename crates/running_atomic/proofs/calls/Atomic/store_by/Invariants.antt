use Rattle.running_atomic.proofs.calls.Atomic.store_by.Given as goal

-- the call is the one that is handed in
abbrev pub ghosts-first_enter : goal.ghosts-first_enter
ghosts-first_enter g a = record { call = a._call.now }

abbrev pub ghosts-write_later : goal.ghosts-write_later
ghosts-write_later g a = record { call = a._call.now }
