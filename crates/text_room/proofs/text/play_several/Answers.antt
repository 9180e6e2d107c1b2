use Rattle.text_room.proofs.Names.{◌∙◌, refl, ap, subst, ◌++◌, [], ℕ, List, Vec, Err, Ok, map, err_from_is_err_and, lines_of, Object, Bor, StandsAt, string_bytes}
use Rattle.text_room.specs.Output.{last_lines}
use Rattle.text_room.specs.Walk.{told}
use Rattle.text_room.proofs.PlayLaws.{faults_so, plays_so, text_is_printed}
use Rattle.text_room.proofs.text.play_several.Goals as goal

pub returns-in_err-play_rest-clause-fault : goal.returns-in_err-play_rest-clause-fault
returns-in_err-play_rest-clause-fault g c =
    let p = err_from_is_err_and c.from_residual-in_err-play_rest.result c.from_residual-in_err-play_rest.ensures.1 in
    let found = told c.in_ok-group.group c.in_ok-group.rest in
    let stands = subst (λ (o : List (Object g.row.T.Denot)). StandsAt g.T.AtomicInteger.arithmetic o found.parties [] c.in_ok-room.room) c.deref.ensures.value c.in_ok-room.ensures in
    rw (p.1, p.2) (faults_so g.T.AtomicInteger.arithmetic g.T.TextInteger.numerals (lines_of c.args.text.now) found c.in_ok-group.rest c.in_err-play_rest.field-0.0 c.in_ok-group.ensures.opened c.in_ok-group.ensures.left refl refl
    (plays_so g.T.AtomicInteger.arithmetic g.T.TextInteger.numerals found c.in_ok-group.rest _ _ (string_bytes c.new-out.result) (string_bytes c.play_rest.new.out) _ c.play_rest.new.room (Err c.in_err-play_rest.field-0.0) (ap (map (λ name. name.now)) c.deref-2.ensures.value) c.deref-3.ensures.value stands
    c.in_err-play_rest.ensures))

pub returns-clause-played : goal.returns-clause-played
returns-clause-played g c =
    let found = told c.in_ok-group.group c.in_ok-group.rest in
    let stands = subst (λ (o : List (Object g.row.T.Denot)). StandsAt g.T.AtomicInteger.arithmetic o found.parties [] c.in_ok-room.room) c.deref.ensures.value c.in_ok-room.ensures in
    text_is_printed g.T.AtomicInteger.arithmetic g.T.TextInteger.numerals (lines_of c.args.text.now) found c.in_ok-group.rest _ _ _ _ c.in_ok-group.ensures.opened c.in_ok-group.ensures.left refl refl c.new-out.ensures.bytes
    (plays_so g.T.AtomicInteger.arithmetic g.T.TextInteger.numerals found c.in_ok-group.rest _ _ _ _ _ _ (Ok tt) (ap (map (λ name. name.now)) c.deref-2.ensures.value) c.deref-3.ensures.value stands c.in_ok-play_rest.ensures)
    (λ objects parties past stands.
    c.in_ok-print_lasts.ensures objects parties past stands
    ∙ ap (λ (v : Vec ℕ g.row.A.Denot). v.items ++ last_lines g.T.AtomicInteger.arithmetic g.T.TextInteger.numerals 0 (map (λ name. name.now) c.deref-4.result.now) objects past) c.into_bytes-bytes.ensures.value
    ∙ ap (λ (l : List (Bor (List ℕ))). string_bytes c.play_rest.new.out ++ last_lines g.T.AtomicInteger.arithmetic g.T.TextInteger.numerals 0 (map (λ name. name.now) l) objects past) c.deref-4.ensures.value)
