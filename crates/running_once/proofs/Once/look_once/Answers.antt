use Rattle.running_once.proofs.OncePlays.{asked_is_over}
use Rattle.running_once.proofs.Once.look_once.Goals as goal

pub end-pass-requires-clause-over : goal.end-pass-requires-clause-over
end-pass-requires-clause-over g c = asked_is_over _ _ _ c.first_look-seen.ensures.went
