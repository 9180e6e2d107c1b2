use Rattle.running_rw_writer.proofs.AnswerNames.{None, Call, RwWriterPlace, ◌+◌, refl, made_mark, comes_to_mark, may_mark, marked, mark_missed, set_it, missed_it}
use Rattle.running_rw_writer.proofs.RwLockWriterPreference.set_mark.Goals as goal

pub exchange-found-requires-clause-may : goal.exchange-found-requires-clause-may
exchange-found-requires-clause-may g c = may_mark c.requires.at.0 _ _ c.requires.at.1 _ c.requires.even c.requires.other c.requires.marked c.requires.at.2

pub returns-then-found-seen-clause-done : goal.returns-then-found-seen-clause-done
returns-then-found-seen-clause-done g c = let w = c.requires.at in set_it _ _ 1 c.exchange-found.ensures.same
    ((made_mark Call.WriteLock _ _ _ _ _ c.requires.other refl (c.exchange-found.ensures.stepped.acted.told Call.WriteLock (RwWriterPlace.Mark c.args.seen (c.args.seen + 1) w.0) None w.1 (comes_to_mark w.0 _ w.1 _ c.requires.even c.requires.other w.2))).0 c.if-found-seen.true)

pub returns-then-found-seen-clause-spins : goal.returns-then-found-seen-clause-spins
returns-then-found-seen-clause-spins g c = λ patience done at. marked patience _ _ done _ _ c.requires.even c.requires.other c.if-found-seen.true at c.exchange-found.ensures.stepped.went

pub returns-else-found-seen-clause-looks : goal.returns-else-found-seen-clause-looks
returns-else-found-seen-clause-looks g c = λ patience done at. mark_missed patience _ _ done _ _ c.requires.even c.requires.other c.if-found-seen.false at c.exchange-found.ensures.stepped.went

pub returns-else-found-seen-clause-missed : goal.returns-else-found-seen-clause-missed
returns-else-found-seen-clause-missed g c = let w = c.requires.at in missed_it _ _ _ _ c.exchange-found.ensures.same c.requires.just
    ((made_mark Call.WriteLock _ _ _ _ _ c.requires.other refl (c.exchange-found.ensures.stepped.acted.told Call.WriteLock (RwWriterPlace.Mark c.args.seen (c.args.seen + 1) w.0) None w.1 (comes_to_mark w.0 _ w.1 _ c.requires.even c.requires.other w.2))).1 c.if-found-seen.false)
