use Rattle.running_atomic.proofs.Names.{◌∙◌}
use Rattle.running_atomic.proofs.AtomicPlays.{reads_some, reads_none, may_look_again, looks_again, may_enter, enters, turned_away}
use Rattle.running_atomic.proofs.OverCalls.{still_looked, not_reading, still_on}
use Rattle.running_atomic.proofs.calls.Atomic.read_from.Goals as goal

pub enter_read-found-requires-clause-may : goal.enter_read-found-requires-clause-may
enter_read-found-requires-clause-may g c κs within = let read = reads_some _ _ _ c.reader_enters.ensures.«open» c.reader_enters.ensures.shut c.in-Some-reader_enters.is in may_enter _ _ _ _ _ _ read.0 read.1 (c.loop.invariant.at c.requires.at.0 c.requires.at.1)

pub returns-then-found-last-clause-next : goal.returns-then-found-last-clause-next
returns-then-found-last-clause-next g c = λ done at. enters _ _ _ _ _ _ _ (reads_some _ _ _ c.reader_enters.ensures.«open» c.reader_enters.ensures.shut c.in-Some-reader_enters.is).0 c.if-found-last.true (c.loop.invariant.at done at) c.enter_read-found.ensures.went

pub look-found-requires-clause-may : goal.look-found-requires-clause-may
look-found-requires-clause-may g c κs within = may_look_again _ _ _ _ _ (reads_none _ _ c.reader_enters.ensures.«open» c.in-None-reader_enters.is) (c.loop.invariant.at c.requires.at.0 c.requires.at.1)

pub loop-preserved-in-Some-reader_enters : goal.loop-preserved-in-Some-reader_enters
loop-preserved-in-Some-reader_enters g c = record {
  same_borrow = c.enter_read-found.ensures.same_borrow ∙ c.loop.invariant.same_borrow;
  still = still_on c.args.turn.pass.now c.loop.next.pass.now c.enter_read-found.result.1.pass.now c.loop.invariant.still (not_reading c.loop.next.pass.now c.enter_read-found.result.1.pass.now _ _ c.if-found-last.false c.enter_read-found.ensures.same c.enter_read-found.ensures.tried);
  at = λ done at. turned_away _ _ _ _ _ _ _ (reads_some _ _ _ c.reader_enters.ensures.«open» c.reader_enters.ensures.shut c.in-Some-reader_enters.is).0 c.if-found-last.false (c.loop.invariant.at done at) c.enter_read-found.ensures.went;
}

pub loop-preserved : goal.loop-preserved
loop-preserved g c = record {
  same_borrow = c.look-found.ensures.same_borrow ∙ c.loop.invariant.same_borrow;
  still = still_on c.args.turn.pass.now c.loop.next.pass.now c.look-found.result.1.pass.now c.loop.invariant.still (still_looked c.loop.next.pass.now c.look-found.result.1.pass.now _ c.look-found.ensures.same c.look-found.ensures.saw);
  at = λ done at. looks_again _ _ _ _ _ _ _ (reads_none _ _ c.reader_enters.ensures.«open» c.in-None-reader_enters.is) (c.loop.invariant.at done at) c.look-found.ensures.went;
}
