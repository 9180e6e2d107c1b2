use Rattle.std.proofs.Common.{◌∙◌, List, ℕ, Bor, map, sym, ap}
use Rattle.text_lines.specs.Lexer.{words_of}
use Rattle.text_own.specs.Table.{first_value}
use Rattle.text_own.proofs.TableLaws.{words_more}
use Rattle.text_own.proofs.table.words_from.Goals as goal

pub loop-name-preserved : goal.loop-name-preserved
loop-name-preserved c =
    let name = c.in-Some.name.now in
    let value = c.in-Some-next_word.value.now in
    let told = c.in-Ok.ensures ∙ ap (λ (l : List (Bor (List ℕ))). first_value (map (λ n. n.now) l) name value) c.deref.ensures.value in
    c.loop-name.invariant ∙ rw (c.in_ok-push_name-in-Ok.ensures, c.in_ok-push-in-Ok.ensures)
    (words_more (map (λ n. n.now) c.loop-name.names.items) c.loop-name.opening.items (words_of c.loop-name.rest.now) name value (words_of c.in-Some.after.now) (words_of c.in-Some-next_word.after.now) c.in-Ok.number c.in-Some.ensures c.in-Some-next_word.ensures (sym told))
