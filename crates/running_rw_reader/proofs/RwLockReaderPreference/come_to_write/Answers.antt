use Rattle.running_rw_reader.proofs.Names.{read_holds, write_holds, View, Holds, ap}
use Rattle.running_rw_reader.proofs.RwReaderKeeps.{misses, exchanges_alone, writes_on, was_free}
use Rattle.running_rw_reader.proofs.RwLockReaderPreference.come_to_write.Goals as goal

pub exchange-requires-clause-may : goal.exchange-requires-clause-may
exchange-requires-clause-may g c = c.requires.may _ c.write_locked.ensures

pub returns-clause-done : goal.returns-clause-done
returns-clause-done g c = writes_on _ _ _ _ c.args.turn.pass.now c.exchange.result.1.pass.now (c.requires.may _ c.write_locked.ensures) c.write_locked.ensures c.exchange.ensures.same c.exchange.ensures.stepped.acted.told

pub returns-clause-off : goal.returns-clause-off
returns-clause-off g c = λ free. let none = was_free _ _ _ _ c.args.turn.pass.now c.exchange.result.1.pass.now (c.requires.may _ c.write_locked.ensures) c.exchange.ensures.stepped.acted.share free in (ap read_holds none, ap write_holds none)

pub returns-clause-on : goal.returns-clause-on
returns-clause-on g c = λ free. let done = (writes_on _ _ _ _ c.args.turn.pass.now c.exchange.result.1.pass.now (c.requires.may _ c.write_locked.ensures) c.write_locked.ensures c.exchange.ensures.same c.exchange.ensures.stepped.acted.told free).1 in
    (ap (λ (v : View Holds). read_holds v.tally) done, ap (λ (v : View Holds). write_holds v.tally) done)

pub returns-clause-failed : goal.returns-clause-failed
returns-clause-failed g c = misses _ _ _ _ c.args.turn.pass.now c.exchange.result.1.pass.now (c.requires.may _ c.write_locked.ensures) c.exchange.ensures.same c.exchange.ensures.stepped.acted.told

pub returns-clause-exact : goal.returns-clause-exact
returns-clause-exact g c = exchanges_alone _ _ _ _ c.args.turn.pass.now c.exchange.result.1.pass.now (c.requires.may _ c.write_locked.ensures) c.exchange.ensures.stepped.acted.share
