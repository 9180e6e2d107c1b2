use Rattle.text_room.proofs.Names.{◌≡◌, ◌∙◌, sym, ap, List, ℕ, map, arith, rules, true, false, lines_of, words_of, let_of, Bor, bytes_eq, codes}
use Rattle.text_room.proofs.OpenLaws.{opens_none_left, opens_empty, opens_more, opens_wrongly, opens_no_more}
use Rattle.text_room.proofs.walk.open.Goals.{in-Some-next_word+else-not-is+in-Ok-named_object+in_ok-push_name-in-Ok-named_object+in_ok-push_object-in-Ok-named_object, in_default-next_word, in-Some-next_line+in-Some-next_word+then-not-is, in_default-next_line}
use Rattle.text_room.proofs.walk.open.Goals as goal

pub returns-in-Err-named_object-clause-fault : goal.returns-in-Err-named_object-clause-fault
returns-in-Err-named_object-clause-fault g c =
    let is : bytes_eq c.in-Some-next_word.word.now (codes "let") ≡ true = search rules in
    let told = c.in-Err-named_object.ensures ∙ ap (λ (l : List (Bor (List ℕ))). let_of g.T.TextInteger.numerals (map (λ name. name.now) l) (words_of c.in-Some-next_word.rest.now)) c.deref.ensures.value in
    c.loop-next.invariant.1
    ∙ opens_wrongly g.T.TextInteger.numerals c.in-Ok.parties (map (λ name. name.now) c.loop-next.names.items) c.loop-next.objects.items c.loop-next.line (lines_of c.loop-next.lines.now) c.in-Some-next_line.next.now (lines_of c.in-Some-next_line.after.now)
    c.in-Some-next_word.word.now (words_of c.in-Some-next_word.rest.now) c.in-Err-named_object.fault c.in-Some-next_line.ensures.lines c.in-Some-next_word.ensures is (sym told)

pub loop-next-preserved : goal.loop-next-preserved
loop-next-preserved g c =
    let names = map (λ name. name.now) c.loop-next.names.items in
    let objects = c.loop-next.objects.items in
    let lines = lines_of c.loop-next.lines.now in
    let next = c.in-Some-next_line.next.now in
    let rest = lines_of c.in-Some-next_line.after.now in (
      omega (arith, c.loop-next.invariant.0, c.in-Some-next_line.ensures.shorter),
      c.loop-next.invariant.1 ∙ elim c.match-next_word.branch [
        | in-Some-next_word+else-not-is+in-Ok-named_object+in_ok-push_name-in-Ok-named_object+in_ok-push_object-in-Ok-named_object w ↦
            let is : bytes_eq w.in-Some-next_word.word.now (codes "let") ≡ true = search rules in
            let words = words_of w.in-Some-next_word.rest.now in
            let told = w.in-Ok-named_object.ensures ∙ ap (λ (l : List (Bor (List ℕ))). let_of g.T.TextInteger.numerals (map (λ name. name.now) l) words) w.deref.ensures.value in
            rw (w.names-is, w.objects-is, w.in_ok-push_name-in-Ok-named_object.ensures, w.in_ok-push_object-in-Ok-named_object.ensures)
            (opens_more g.T.TextInteger.numerals c.in-Ok.parties names objects c.loop-next.line lines next rest w.in-Some-next_word.word.now words _ _ c.in-Some-next_line.ensures.lines w.in-Some-next_word.ensures is (sym told))
        | in_default-next_word w ↦ rw (w.names-is, w.objects-is) (opens_empty g.T.TextInteger.numerals c.in-Ok.parties names objects c.loop-next.line lines next rest c.in-Some-next_line.ensures.lines (search rules))
      ],
    )

pub returns-clause-opened : goal.returns-clause-opened
returns-clause-opened g c =
    let names = map (λ name. name.now) c.loop-next.names.items in
    let objects = c.loop-next.objects.items in
    let lines = lines_of c.loop-next.lines.now in
    c.loop-next.invariant.1 ∙ elim c.match-next_line-2.branch [
      | in-Some-next_line+in-Some-next_word+then-not-is w ↦
          let other : bytes_eq w.in-Some-next_word.word.now (codes "let") ≡ false = search rules in
          opens_no_more g.T.TextInteger.numerals c.in-Ok.parties names objects c.loop-next.line lines w.in-Some-next_line.next.now (lines_of w.in-Some-next_line.after.now) w.in-Some-next_word.word.now (words_of w.in-Some-next_word.rest.now)
          w.in-Some-next_line.ensures.lines w.in-Some-next_word.ensures other
      | in_default-next_line w ↦ opens_none_left g.T.TextInteger.numerals c.in-Ok.parties names objects c.loop-next.line lines (search rules)
    ]
