use Rattle.running_rw_writer.proofs.AnswerNames.{made_read, exchanges, enters, exchanges_alone, may_read, read_once, read_goes}
use Rattle.running_rw_writer.proofs.reading.RwLockWriterPreferenceReadStepsRwWriterScriptRwWriterPlaceMarkedHolds.enter.Goals as goal

pub exchange-requires-clause-may : goal.exchange-requires-clause-may
exchange-requires-clause-may g c = may_read _ _ _ c.requires.room.0 c.requires.room.1 c.requires.may

pub returns-clause-tried : goal.returns-clause-tried
returns-clause-tried g c =
    let p = c.args.turn.pass.now in
    let q = c.exchange.result.1.pass.now in
    let may = may_read _ _ _ c.requires.room.0 c.requires.room.1 c.requires.may in
    let made = made_read _ _ _ _ _ _ c.requires.room.1 (exchanges _ _ _ _ p q may c.exchange.ensures.stepped.acted.told) in record {
      done = λ hit. (c.exchange.ensures.same, made.0 hit);
      moved = enters _ _ _ _ p q may c.exchange.ensures.stepped.acted.told c.exchange.ensures.stepped.acted.share c.requires.room.0;
      failed = λ miss. (c.exchange.ensures.same, made.1 miss);
      alone = exchanges_alone _ _ _ _ p q may c.exchange.ensures.stepped.acted.told c.exchange.ensures.stepped.acted.share;
      once_led = λ done at. read_once _ _ done _ _ c.requires.room.0 at c.exchange.ensures.stepped.went;
      led = λ patience done at. read_goes patience _ _ done _ _ c.requires.room.0 at c.exchange.ensures.stepped.went;
    }
