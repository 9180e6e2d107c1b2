use Rattle.running_rw_hold.proofs.Names.{inr, MatchBool-at_true, parties_of, all_of, spun}
use Rattle.running_rw_hold.proofs.RwTries.{begins_so, surely}
use Rattle.running_rw_hold.proofs.reading.first_read.Goals as goal

pub enter-found-requires-clause-may : goal.enter-found-requires-clause-may
enter-found-requires-clause-may g c = inr (spun 0, all_of (parties_of c.args.pass.now), c.first_look-seen.ensures.looked.led (spun 0) _ (begins_so _ _ _ _ g.met.L.ReadSteps.begins))

pub returns-then-found-seen-clause-granted : goal.returns-then-found-seen-clause-granted
returns-then-found-seen-clause-granted g c = MatchBool-at_true _ _ (surely _ _ c.if-found-seen.true) (c.enter-found.ensures.tried.led (spun 0) _ (c.first_look-seen.ensures.looked.led (spun 0) _ (begins_so _ _ _ _ g.met.L.ReadSteps.begins)))
