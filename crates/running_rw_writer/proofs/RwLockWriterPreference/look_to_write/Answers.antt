use Rattle.running_rw_writer.proofs.AnswerNames.{Call, RwWriterPlace, refl, looks_alone, may_look}
use Rattle.running_rw_writer.proofs.RwLockWriterPreference.look_to_write.Goals as goal

pub returns-clause-alone : goal.returns-clause-alone
returns-clause-alone g c = let w = c.requires.comes in looks_alone _ _ c.args.turn.pass.now (may_look _ Call.WriteLock (RwWriterPlace.WriteLook w.0) w.1 _ refl w.2) c.load.ensures.stepped.acted.share
