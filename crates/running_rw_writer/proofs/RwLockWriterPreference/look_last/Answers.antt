use Rattle.running_rw_writer.proofs.AnswerNames.{None, Going, Call, RwWriterPlace, sights_of, seen, refl, may_look, looked_last, sees_it, tried_again, unchanged}
use Rattle.running_rw_writer.proofs.RwLockWriterPreference.look_last.Goals as goal

pub load-seen-requires-clause-may : goal.load-seen-requires-clause-may
load-seen-requires-clause-may g c = let w = c.requires.at in may_look Going Call.WriteLock (RwWriterPlace.LastLook c.load_count-count.result.0 w.0) w.1 _ refl (c.load_count-count.ensures.loaded w.0 w.1 w.2)

pub returns-clause-tried : goal.returns-clause-tried
returns-clause-tried g c = let w = c.requires.at in let p = c.load_count-count.result.1.pass.now in tried_again 0 1 _ _ _ (unchanged _ _ c.load_count-count.ensures.same c.load_count-count.ensures.unchanged)
    (sees_it p c.load-seen.result.1.pass.now _ (seen (sights_of p) c.load-seen.result.0) refl refl refl c.load-seen.ensures.same (c.load-seen.ensures.stepped.acted.told Call.WriteLock (RwWriterPlace.LastLook c.load_count-count.result.0 w.0) None w.1 (c.load_count-count.ensures.loaded w.0 w.1 w.2))).0

pub returns-clause-just : goal.returns-clause-just
returns-clause-just g c = let w = c.requires.at in let p = c.load_count-count.result.1.pass.now in
    (sees_it p c.load-seen.result.1.pass.now _ (seen (sights_of p) c.load-seen.result.0) refl refl refl c.load-seen.ensures.same (c.load-seen.ensures.stepped.acted.told Call.WriteLock (RwWriterPlace.LastLook c.load_count-count.result.0 w.0) None w.1 (c.load_count-count.ensures.loaded w.0 w.1 w.2))).1

pub returns-clause-looked : goal.returns-clause-looked
returns-clause-looked g c = λ patience done at. looked_last _ _ _ _ c.load-seen.ensures.stepped.went patience done (c.load_count-count.ensures.loaded patience done at)
