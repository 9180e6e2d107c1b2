use Rattle.running_atomic.proofs.Names.{HoldKind, parties_of, key_of, Some, sym, subst, Knows}
use Rattle.running_atomic.proofs.AtomicPlays.{reads_next, may_read_low, reads_low, may_read_high, reads_high}
use Rattle.running_atomic.proofs.OverCalls.{low_read}
use Rattle.running_atomic.proofs.calls.Atomic.compare.Goals as goal

pub read_low-low-requires-clause-may : goal.read_low-low-requires-clause-may
read_low-low-requires-clause-may g c κs within = may_read_low _ _ _ (Some HoldKind.Write) _ _ (reads_next _ _ _ _ _ c.requires.reads c.requires.at.1)

pub compare_high-high-requires-clause-may : goal.compare_high-high-requires-clause-may
compare_high-high-requires-clause-may g c κs within = may_read_high _ _ _ _ (Some HoldKind.Write) _ _ (reads_low _ _ _ (Some HoldKind.Write) _ _ _ _ (reads_next _ _ _ _ _ c.requires.reads c.requires.at.1) c.read_low-low.ensures.went)

pub compare_high-high-requires-clause-compares : goal.compare_high-high-requires-clause-compares
compare_high-high-requires-clause-compares g c κs within = record {
  call = g.L.Called.call;
  low = c.read_low-low.result.0;
  low_is = low_read _ _ _ c.requires.on c.read_low-low.ensures.read;
  at = record { hold = Some HoldKind.Write; done = _; at = reads_low _ _ _ (Some HoldKind.Write) _ _ _ _ (reads_next _ _ _ _ _ c.requires.reads c.requires.at.1) c.read_low-low.ensures.went };
  acts = c.requires.other;
  is_act = c.requires.acts;
}

pub returns-clause-knows : goal.returns-clause-knows
returns-clause-knows g c = λ done at. subst (λ x. Knows g.T.AtomicInteger.arithmetic (key_of c.args.self.now.stage) g.L.Called.call x done (parties_of c.compare_high-high.result.1.pass.now)) (sym c.from_words.ensures.given)
    (reads_high _ _ _ _ _ (Some HoldKind.Write) _ _ _ (reads_low _ _ _ (Some HoldKind.Write) _ _ _ _ (reads_next _ _ _ _ _ c.requires.reads at) c.read_low-low.ensures.went) c.compare_high-high.ensures.went)
