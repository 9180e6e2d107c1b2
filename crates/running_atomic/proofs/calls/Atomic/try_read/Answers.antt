use Rattle.running_atomic.proofs.Names.{eqb-true, eqb-false}
use Rattle.running_atomic.proofs.AtomicPlays.{reads_some, may_enter, enters, turned_away}
use Rattle.running_atomic.proofs.calls.Atomic.try_read.Goals as goal

pub enter_read-found-requires-clause-may : goal.enter_read-found-requires-clause-may
enter_read-found-requires-clause-may g c κs within = let read = reads_some _ _ _ c.reader_enters.ensures.«open» c.reader_enters.ensures.shut c.in-Some.is in may_enter _ _ _ _ _ _ read.0 read.1 c.requires.at.1

pub returns-in-Some-clause-next : goal.returns-in-Some-clause-next
returns-in-Some-clause-next g c = λ hit done at. enters _ _ _ _ _ _ _ (reads_some _ _ _ c.reader_enters.ensures.«open» c.reader_enters.ensures.shut c.in-Some.is).0 (eqb-true _ _ hit) at c.enter_read-found.ensures.went

pub returns-in-Some-clause-again : goal.returns-in-Some-clause-again
returns-in-Some-clause-again g c = λ miss done at. turned_away _ _ _ _ _ _ _ (reads_some _ _ _ c.reader_enters.ensures.«open» c.reader_enters.ensures.shut c.in-Some.is).0 (eqb-false _ _ miss) at c.enter_read-found.ensures.went
