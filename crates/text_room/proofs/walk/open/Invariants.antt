use Rattle.text_room.proofs.Names.{◌≡◌, ◌+◌, ◌^◌, ◌<◌, length, map, lines_of}
use Rattle.text_room.specs.Walk.{opened, opened_from}
use Rattle.text_room.proofs.walk.open.Given as goal

-- the lines so far were read
abbrev pub invariant-loop-next : goal.invariant-loop-next
invariant-loop-next g l =
    (l.line + length l.lines < 2 ^ 64) ×
    (opened g.T.TextInteger.numerals (lines_of l.text) ≡ opened_from g.T.TextInteger.numerals l.parties (map (λ name. name.now) l.names.items) l.objects.items l.line (lines_of l.lines))

abbrev pub decreases-loop-next : goal.decreases-loop-next
decreases-loop-next g l = length l.lines
