use Rattle.running_rw_writer.proofs.AnswerNames.{inr, rules, comes_to_enter, may_enter, missed_it, fewest}
use Rattle.running_rw_writer.proofs.RwLockWriterPreference.enter_if_free.Goals as goal

pub come_to_write-found-requires-clause-may : goal.come_to_write-found-requires-clause-may
come_to_write-found-requires-clause-may g c = may_enter c.requires.at.0 _ c.requires.at.1 _ (comes_to_enter c.requires.at.0 _ c.requires.at.1 _ (search rules) c.requires.at.2)

pub returns-else-found-seen-clause-refused : goal.returns-else-found-seen-clause-refused
returns-else-found-seen-clause-refused g c =
    let missed = missed_it _ _ _ _ c.come_to_write-found.ensures.same c.requires.just (c.come_to_write-found.ensures.told.failed c.if-found-seen.false) in
    (fewest 1 _ _ missed.tried, missed.just, inr missed.missed)
