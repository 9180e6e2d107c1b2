use Rattle.running_atomic.proofs.Names.{Some}
use Rattle.running_atomic.proofs.calls.Atomic.update_by.Given as goal

-- the value is the one that was chosen
abbrev pub ghosts-put_chosen : goal.ghosts-put_chosen
ghosts-put_chosen g a = record { choice = Some a.turn.value }
