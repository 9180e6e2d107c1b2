use Rattle.running_atomic.proofs.calls.Atomic.compare.Given as goal

-- the comparison is the one that is handed in
abbrev pub ghosts-compare_high : goal.ghosts-compare_high
ghosts-compare_high g a = record { act = a._by.now.act; current = λ _. a._by.now.current }
