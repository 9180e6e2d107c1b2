use Rattle.text_lines.proofs.Names.{◌≡◌, drop, named}
use Rattle.text_lines.proofs.call.named.Given as goal

-- the calls so far have other names
abbrev pub invariant-loop-call : goal.invariant-loop-call
invariant-loop-call l = named l.name l.calls ≡ named l.name (drop l.call-index l.calls)
