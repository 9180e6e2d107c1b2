-- A picture of a text is one of its lines, with values of its type; and of no line it is said that it tells no move.
use Rattle.draw_text.proofs.Names.{◌≡◌, ◌∙◌, sym, ap, ℕ, Bool, true, List, [], are_told, Result, IfOk, Vec, Global, subst, ValueType, IsPictureOfRows, rows_in, IsPictureOf}
use Rattle.text_lines.specs.declared.fault.TextFault.{TextFault}
use Rattle.text_lines.specs.Lexer.{lines_of}
use Rattle.text_lines.specs.ValueTypes.{type_of_lines, meaning_of}
use Rattle.text_room.specs.Output.{begins_several}

pub drawn_at : (t : ValueType) (is_several : Bool) (text : List ℕ) (r : Result (Vec ℕ Global) TextFault) → t ≡ type_of_lines (lines_of text) → is_several ≡ begins_several (lines_of text)
    → IfOk r (λ bytes. IsPictureOfRows (rows_in (meaning_of t).arithmetic (meaning_of t).numerals is_several (lines_of text)) bytes.items) → IfOk r (λ bytes. IsPictureOf text bytes.items)
unfolding IsPictureOf
drawn_at t is_several text r e f h =
    subst (λ (s : ValueType). IfOk r (λ bytes. IsPictureOfRows (rows_in (meaning_of s).arithmetic (meaning_of s).numerals (begins_several (lines_of text)) (lines_of text)) bytes.items)) e
    (subst (λ (b : Bool). IfOk r (λ bytes. IsPictureOfRows (rows_in (meaning_of t).arithmetic (meaning_of t).numerals b (lines_of text)) bytes.items)) f h)

pub none_left : (all left : List (List ℕ)) → are_told all ≡ are_told left → left ≡ [] → true ≡ are_told all
none_left all left same empty = sym (same ∙ ap are_told empty)
