-- The words of an object are printed in two pieces, and added to those of others.
use Rattle.text_trace.proofs.Names.{arith, nat_tests, eqb-true, eqb-false, ◌≡◌, ℕ, List, ◌++◌, Result, OnOk, append_assoc, map-append, ap, ◌∙◌, map, ◌∷◌, [], String, string_bytes, Global, decimal, Event, Object, Word, Arithmetic, word_in, further_words, Numerals, words_text}

module _ {T : Type 0} (z : Arithmetic T) (numerals : Numerals T) where
  pub words_printed :
      {A E : Type 0} (result : Result A E) (o : Object T) (past : List (Event T)) (word : ℕ) (old first all : List ℕ) → word ≡ word_in z o past Word.State → first ≡ old ++ decimal word →
      OnOk result (all ≡ first ++ further_words z numerals o (word_in z o past)) → OnOk result (all ≡ old ++ words_text z numerals o (word_in z o past))
  words_printed result o past word old first all h1 h2 h3 = grind (arith, nat_tests, eqb-true, eqb-false, append_assoc)

pub words_added : (texts texts' : List (String Global)) (text : String Global) (none words : List ℕ) → none ≡ [] → string_bytes text ≡ none ++ words → texts' ≡ texts ++ text ∷ [] → map string_bytes texts' ≡ map string_bytes texts ++ words ∷ []
words_added texts texts' text none words empty reads is =
    ap (map string_bytes) is ∙ map-append string_bytes texts (text ∷ []) ∙ ap (λ (t : List ℕ). map string_bytes texts ++ t ∷ []) (reads ∙ ap (λ (n : List ℕ). n ++ words) empty)
