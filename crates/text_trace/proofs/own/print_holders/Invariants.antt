use Rattle.text_trace.proofs.Names.{◌≡◌, ◌≤◌, length, string_bytes}
use Rattle.text_trace.specs.Own.{holders}
use Rattle.text_trace.proofs.own.print_holders.Given as goal

abbrev pub invariant-loop-party : goal.invariant-loop-party
invariant-loop-party l = (l.party ≤ length l.parties) × (string_bytes l.text ≡ holders l.parties l.party)
