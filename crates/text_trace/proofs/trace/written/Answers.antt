use Rattle.text_trace.proofs.Names.{ap, ℕ, Vec, Global}
use Rattle.text_trace.proofs.TraceLaws.{written_so}
use Rattle.text_trace.proofs.trace.written.Goals as goal

pub returns : goal.returns
returns g c = written_so c.args.found _ _ _ _ c.deref.ensures.value c.deref-2.ensures.value c.in_ok-out.ensures (ap (λ (v : Vec ℕ Global). v.items) c.into_bytes.ensures.value)
