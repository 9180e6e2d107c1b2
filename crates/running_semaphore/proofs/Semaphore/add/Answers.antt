use Rattle.running_semaphore.proofs.Names.{Word, Intent, sights_after, Beginning, MayStep, Went, parties_of, counted, Told, HasDone, permits_after, semaphore_model, [], ◌∷◌, sym, subst, initial_of, HasPlayedPost, gave}
use Rattle.running_semaphore.proofs.SemaphoreKeeps.{gives}
use Rattle.running_semaphore.proofs.SemaphorePlays.{may_add, posts}
use Rattle.running_semaphore.proofs.Semaphore.add.Goals as goal

pub add-turn-requires-clause-may : goal.add-turn-requires-clause-may
add-turn-requires-clause-may g c = subst (λ call. MayStep (semaphore_model (initial_of c.args.self.now)) (Word.State ∷ []) (Beginning call) 0 (λ w. Intent.Add w c.args.value) (parties_of c.begin_new-begun.result.pass.now)) (sym c.requires.post) (may_add _ _ _ c.ranges.value.fits)

pub returns-clause-given : goal.returns-clause-given
returns-clause-given g c = subst (λ p. HasDone (gave c.args.value) p c.add-turn.result.1.pass.now) c.begin_new-begun.ensures.still
    (c.add-turn.ensures.same, gives _ (parties_of c.begin_new-begun.result.pass.now) c.args.value c.add-turn.result.0 (counted c.begin_new-begun.result.pass.now) (counted c.add-turn.result.1.pass.now) (may_add _ _ _ c.ranges.value.fits) (subst (λ call. Told (semaphore_model (initial_of c.args.self.now)) sights_after permits_after (Beginning call) (parties_of c.begin_new-begun.result.pass.now) c.add-turn.result.0 (counted c.begin_new-begun.result.pass.now) (counted c.add-turn.result.1.pass.now)) c.requires.post c.add-turn.ensures.stepped.acted.told))

pub returns-clause-played : goal.returns-clause-played
returns-clause-played g c = subst (λ p. HasPlayedPost (initial_of c.args.self.now) c.args.value p c.add-turn.result.1.pass.now) c.begin_new-begun.ensures.still
    (posts _ c.args.value c.add-turn.result.0 (parties_of c.begin_new-begun.result.pass.now) (parties_of c.add-turn.result.1.pass.now) c.ranges.value.fits (subst (λ call. Went (semaphore_model (initial_of c.args.self.now)) (Beginning call) (parties_of c.begin_new-begun.result.pass.now) c.add-turn.result.0 (parties_of c.add-turn.result.1.pass.now)) c.requires.post c.add-turn.ensures.stepped.went))
