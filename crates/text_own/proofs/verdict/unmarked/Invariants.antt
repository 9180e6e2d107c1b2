use Rattle.std.proofs.Common.{◌≡◌, ◌++◌, length, map}
use Rattle.text_own.specs.Answer.{unmark}
use Rattle.text_own.proofs.verdict.unmarked.Given as goal

-- the bytes so far were taken
abbrev pub invariant-loop-byte : goal.invariant-loop-byte
invariant-loop-byte l = map unmark l.text ≡ l.bytes.items ++ map unmark l.rest

abbrev pub decreases-loop-byte : goal.decreases-loop-byte
decreases-loop-byte l = length l.rest
