use Rattle.running_atomic.proofs.Names.{HoldKind, parties_of, key_of, Some, sym, subst, Knows}
use Rattle.running_atomic.proofs.AtomicPlays.{reads_next, may_read_low, reads_low, may_read_high, reads_high}
use Rattle.running_atomic.proofs.calls.Atomic.take.Goals as goal

pub read_low-low-requires-clause-may : goal.read_low-low-requires-clause-may
read_low-low-requires-clause-may g c κs within = may_read_low _ _ _ (Some HoldKind.Write) _ _ (reads_next _ _ _ _ _ c.requires.reads c.requires.at.1)

pub read_high-high-requires-clause-may : goal.read_high-high-requires-clause-may
read_high-high-requires-clause-may g c κs within = may_read_high _ _ _ _ (Some HoldKind.Write) _ _ (reads_low _ _ _ (Some HoldKind.Write) _ _ _ _ (reads_next _ _ _ _ _ c.requires.reads c.requires.at.1) c.read_low-low.ensures.went)

pub read_high-high-requires-clause-goes_on : goal.read_high-high-requires-clause-goes_on
read_high-high-requires-clause-goes_on g c κs within = record {
  call = g.L.Called.call;
  low = c.read_low-low.result.0;
  at = record { hold = Some HoldKind.Write; done = _; at = reads_low _ _ _ (Some HoldKind.Write) _ _ _ _ (reads_next _ _ _ _ _ c.requires.reads c.requires.at.1) c.read_low-low.ensures.went };
  goes_on = c.requires.goes_on;
}

pub returns-clause-knows : goal.returns-clause-knows
returns-clause-knows g c = λ done at. subst (λ x. Knows g.T.AtomicInteger.arithmetic (key_of c.args.self.now.stage) g.L.Called.call x done (parties_of c.read_high-high.result.1.pass.now)) (sym c.from_words.ensures.given)
    (reads_high _ _ _ _ _ (Some HoldKind.Write) _ _ _ (reads_low _ _ _ (Some HoldKind.Write) _ _ _ _ (reads_next _ _ _ _ _ c.requires.reads at) c.read_low-low.ensures.went) c.read_high-high.ensures.went)
