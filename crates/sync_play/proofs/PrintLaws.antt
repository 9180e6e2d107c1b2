-- Lines are printed in pieces.
use Rattle.sync_play.proofs.Names.{nat_tests, eqb-true, eqb-false, ◌≡◌, ◌∙◌, refl, ap, arith, ℕ, ◌+◌, ◌-◌, ◌^◌, ◌<◌, min, if◌then◌else◌, is_ok, List, ◌∷◌, ◌++◌, Result, OnOk, append_assoc, decimal_digit, codes, decimal, Event, Object, Word, Arithmetic, failures_in, word_in, Numerals, party_words, party_line, named, further_words, last_line}

-- what is printed, if the last piece is
printed_all : {A E P Q : Type 0} (result : Result A E) → (P → Q) → OnOk result P → OnOk result Q
printed_all result h1 h2 = grind (arith, nat_tests, eqb-true, eqb-false)

-- a text is there, if it could be pushed
pub pushed : {A E : Type 0} (result : Result A E) (old text new : List ℕ) → new ≡ (if is_ok result then old ++ text else old) → OnOk result (new ≡ old ++ text)
pushed result old text new h1 = grind (arith, nat_tests, eqb-true, eqb-false)

-- words were printed, and then the last piece
pub printed_after :
    {A E : Type 0} (result : Result A E) (words last old front new : List ℕ) → front ≡ old ++ words → OnOk result (new ≡ front ++ last) → OnOk result (new ≡ old ++ (words ++ last))
printed_after result words last old front new there h = printed_all result (λ is. is ∙ ap (λ (l : List ℕ). l ++ last) there ∙ append_assoc old words last) h

-- a line of a party is its number, and then its words
pub line_printed :
    {A E : Type 0} (result : Result A E) (party : ℕ) (words old front new : List ℕ) → front ≡ old ++ party_words party →
    OnOk result (new ≡ front ++ (words ++ codes "\n")) → OnOk result (new ≡ old ++ party_line party words)
line_printed result party words old front new h1 h2 = grind (arith, nat_tests, eqb-true, eqb-false, append_assoc, printed_after, printed_all)

module _ {T : Type 0} (z : Arithmetic T) (numerals : Numerals T) where
  pub last_printed :
      {A E : Type 0} (result : Result A E) (o : Object T) (past : List (Event T)) (word failed : ℕ) (old first second all : List ℕ) →
      word ≡ word_in z o past Word.State → failed ≡ min (failures_in past) (2 ^ 64 - 1) →
      first ≡ old ++ named (codes "word") (decimal word) →
      second ≡ first ++ further_words z numerals o (word_in z o past) →
      OnOk result (all ≡ second ++ (codes " " ++ (named (codes "failed") (decimal failed) ++ codes "\n"))) →
      OnOk result (all ≡ old ++ last_line z numerals o past)
  unfolding last_line
  last_printed result o past word failed old first second all w f a b c =
      let front = named (codes "word") (decimal word) in
      let rest = further_words z numerals o (word_in z o past) in
      let end = codes " " ++ (named (codes "failed") (decimal failed) ++ codes "\n") in
      let whole : old ++ (front ++ (rest ++ end)) ≡ old ++ last_line z numerals o past = rw (w, f) refl in
      let pieces : second ≡ (old ++ front) ++ rest = b ∙ ap (λ (l : List ℕ). l ++ rest) a in
      printed_all result (λ is. is ∙ ap (λ (l : List ℕ). l ++ end) pieces ∙ append_assoc (old ++ front) rest end ∙ append_assoc old front (rest ++ end) ∙ whole) c

pub number_printed :
    {A E : Type 0} (result : Result A E) (party number : ℕ) (old new : List ℕ) → party ≡ number → number < 9 →
    new ≡ (if is_ok result then old ++ ((48 + (number + 1)) ∷ codes " ") else old) →
    OnOk result (new ≡ old ++ party_words party)
number_printed result party number old new h1 h2 h3 = grind (arith, nat_tests, eqb-true, eqb-false, decimal_digit)
