use Rattle.running_rw_writer.proofs.AnswerNames.{None, Call, RwWriterPlace, ◌-◌, refl, made_unmark, comes_to_unmark, may_unmark, unmarked, unmark_missed, took_it, missed_it}
use Rattle.running_rw_writer.proofs.RwLockWriterPreference.take_mark.Goals as goal

pub exchange-found-requires-clause-may : goal.exchange-found-requires-clause-may
exchange-found-requires-clause-may g c = may_unmark _ _ c.requires.at.0 _ c.requires.set c.requires.unmarked c.requires.at.1

pub returns-then-found-seen-clause-counts : goal.returns-then-found-seen-clause-counts
returns-then-found-seen-clause-counts g c = unmarked _ _ _ _ c.requires.set c.if-found-seen.true c.exchange-found.ensures.stepped.went

pub returns-then-found-seen-clause-done : goal.returns-then-found-seen-clause-done
returns-then-found-seen-clause-done g c = took_it _ _ c.exchange-found.ensures.same c.requires.cause
    ((made_unmark Call.WriteLock _ _ _ _ _ c.requires.set refl (c.exchange-found.ensures.stepped.acted.told Call.WriteLock (RwWriterPlace.Unmark c.args.seen (c.args.seen - 1)) None c.requires.at.0 (comes_to_unmark _ c.requires.at.0 _ c.requires.set c.requires.at.1))).0 c.if-found-seen.true)

pub returns-else-found-seen-clause-looks : goal.returns-else-found-seen-clause-looks
returns-else-found-seen-clause-looks g c = unmark_missed _ _ _ _ c.requires.set c.if-found-seen.false c.exchange-found.ensures.stepped.went

pub returns-else-found-seen-clause-missed : goal.returns-else-found-seen-clause-missed
returns-else-found-seen-clause-missed g c = missed_it _ _ _ _ c.exchange-found.ensures.same c.requires.just
    ((made_unmark Call.WriteLock _ _ _ _ _ c.requires.set refl (c.exchange-found.ensures.stepped.acted.told Call.WriteLock (RwWriterPlace.Unmark c.args.seen (c.args.seen - 1)) None c.requires.at.0 (comes_to_unmark _ c.requires.at.0 _ c.requires.set c.requires.at.1))).1 c.if-found-seen.false)
