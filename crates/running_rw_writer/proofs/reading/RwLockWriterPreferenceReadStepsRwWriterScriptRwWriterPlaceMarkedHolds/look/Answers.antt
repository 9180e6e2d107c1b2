use Rattle.running_rw_writer.proofs.AnswerNames.{None, Call, RwWriterPlace, looks, looks_alone, may_look_to_read}
use Rattle.running_rw_writer.proofs.reading.RwLockWriterPreferenceReadStepsRwWriterScriptRwWriterPlaceMarkedHolds.look.Goals as goal

pub load-requires-clause-may : goal.load-requires-clause-may
load-requires-clause-may g c = may_look_to_read g.W.Way.coming _ c.requires.may

pub returns-clause-looked : goal.returns-clause-looked
returns-clause-looked g c = let p = c.args.turn.pass.now in record {
  saw = looks _ _ p c.load.result.1.pass.now c.requires.may c.load.ensures.same c.load.ensures.stepped.acted.told;
  alone = looks_alone _ _ p (may_look_to_read g.W.Way.coming _ c.requires.may) c.load.ensures.stepped.acted.share;
  once_led = λ _ done comes. c.load.ensures.stepped.went Call.TryReadLock RwWriterPlace.TryReadLook None done comes;
  led = λ patience done comes. c.load.ensures.stepped.went Call.ReadLock (RwWriterPlace.ReadLook patience) None done comes;
}
