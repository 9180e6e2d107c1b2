use Rattle.running_rw_writer.proofs.AnswerNames.{writers_in}
use Rattle.running_rw_writer.proofs.RwLockWriterPreference.come_to_write.Goals as goal

pub exchange-requires-clause-may : goal.exchange-requires-clause-may
exchange-requires-clause-may g c = c.requires.may _ c.write_locked.ensures

pub returns-clause-told : goal.returns-clause-told
returns-clause-told g c = writers_in _ _ _ _ c.args.turn.pass.now c.exchange.result.1.pass.now (c.requires.may _ c.write_locked.ensures) c.exchange.ensures.stepped.acted.told c.exchange.ensures.stepped.acted.share c.requires.free c.write_locked.ensures
