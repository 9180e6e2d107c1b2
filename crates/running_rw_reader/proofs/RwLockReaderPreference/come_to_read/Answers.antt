use Rattle.running_rw_reader.proofs.RwReaderKeeps.{misses, exchanges_alone, reads_on, one_more}
use Rattle.running_rw_reader.proofs.RwLockReaderPreference.come_to_read.Goals as goal

pub returns-clause-done : goal.returns-clause-done
returns-clause-done g c = reads_on _ _ _ _ c.args.turn.pass.now c.exchange.result.1.pass.now c.requires.may c.requires.more c.requires.room c.exchange.ensures.same c.exchange.ensures.stepped.acted.told

pub returns-clause-reads : goal.returns-clause-reads
returns-clause-reads g c = λ hit. (one_more _ _ _ _ c.args.turn.pass.now c.exchange.result.1.pass.now c.requires.may c.requires.more c.requires.room c.exchange.ensures.stepped.acted.share (reads_on _ _ _ _ c.args.turn.pass.now c.exchange.result.1.pass.now c.requires.may c.requires.more c.requires.room c.exchange.ensures.same c.exchange.ensures.stepped.acted.told hit) hit).0

pub returns-clause-writes : goal.returns-clause-writes
returns-clause-writes g c = λ hit. (one_more _ _ _ _ c.args.turn.pass.now c.exchange.result.1.pass.now c.requires.may c.requires.more c.requires.room c.exchange.ensures.stepped.acted.share (reads_on _ _ _ _ c.args.turn.pass.now c.exchange.result.1.pass.now c.requires.may c.requires.more c.requires.room c.exchange.ensures.same c.exchange.ensures.stepped.acted.told hit) hit).1

pub returns-clause-failed : goal.returns-clause-failed
returns-clause-failed g c = misses _ _ _ _ c.args.turn.pass.now c.exchange.result.1.pass.now c.requires.may c.exchange.ensures.same c.exchange.ensures.stepped.acted.told

pub returns-clause-exact : goal.returns-clause-exact
returns-clause-exact g c = exchanges_alone _ _ _ _ c.args.turn.pass.now c.exchange.result.1.pass.now c.requires.may c.exchange.ensures.stepped.acted.share
