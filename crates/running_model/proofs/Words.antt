-- The words of an object under a step.
use Rattle.running_model.proofs.Names.{Word, Intent, carried_out, same_word, word_after, ◌≡◌, ℕ, suc, sym, ◌∙◌, false, List, ◌∷◌, set, get_or, AllHold, IsApart, AreApart, IsNamed, IsStepOn, effect, nat_tests, eqb-true, eqb-false, arith}

pub hold_at : (names : List Word) (found : List ℕ) (i : ℕ) (w : Word) (memory : Word → ℕ) → AllHold names found memory → IsNamed names i w → get_or found i 0 ≡ memory w
hold_at (n ∷ ns) (x ∷ xs) (suc i) w memory hold named = hold_at ns xs i w memory hold.1 named
hold_at names found i w memory h1 h2 = grind (arith, nat_tests, eqb-true, eqb-false)

pub same_hold : (names : List Word) (found : List ℕ) (memory new : Word → ℕ) → AllHold names found memory → ((n : Word) → new n ≡ memory n) → AllHold names found new
same_hold (n ∷ ns) (x ∷ xs) memory new hold same = (hold.0 ∙ sym (same n), same_hold ns xs memory new hold.1 same)
same_hold names found memory new h1 h2 = grind (arith, nat_tests, eqb-true, eqb-false)

-- a word that is none of these is written
apart_hold : (w : Word) (names : List Word) (found : List ℕ) (memory new : Word → ℕ) → IsApart w names → AllHold names found memory → ((n : Word) → same_word w n ≡ false → new n ≡ memory n) → AllHold names found new
apart_hold w (n ∷ ns) (x ∷ xs) memory new apart hold same = (hold.0 ∙ sym (same n apart.1), apart_hold w ns xs memory new apart.2 hold.1 same)
apart_hold w names found memory new h1 h2 h3 = grind (arith, nat_tests, eqb-true, eqb-false)

-- where a name stands, it is apart from a name that is apart from all
named_apart : (n : Word) (names : List Word) (i : ℕ) (w : Word) → IsApart n names → IsNamed names i w → same_word w n ≡ false
named_apart n (m ∷ ms) (suc i) w apart named = named_apart n ms i w apart.2 named
named_apart n names i w h1 h2 = grind (arith, nat_tests, eqb-true, eqb-false)

pub set_holds :
    (names : List Word) (found : List ℕ) (i : ℕ) (w : Word) (memory new : Word → ℕ) (y : ℕ) → AreApart names → AllHold names found memory → IsNamed names i w →
    new w ≡ y → ((n : Word) → same_word w n ≡ false → new n ≡ memory n) → AllHold names (set found i y) new
set_holds (n ∷ ns) (x ∷ xs) (suc i) w memory new y apart hold named is same =
    (hold.0 ∙ sym (same n (named_apart n ns i w apart.0 named)), set_holds ns xs i w memory new y apart.1 hold.1 named is same)
set_holds names found i w memory new y h1 h2 h3 h4 h5 = grind (arith, nat_tests, eqb-true, eqb-false, apart_hold, named_apart)

-- A step on a word.

pub effect_here : {V : Type 0} (w : Word) (intent : Intent V) (memory : Word → ℕ) → IsStepOn w intent → word_after w (carried_out intent memory) (memory w) ≡ effect intent (memory w)
effect_here w intent memory h1 = grind (arith, nat_tests, eqb-true, eqb-false)

pub effect_there : {V : Type 0} (w n : Word) (intent : Intent V) (memory : Word → ℕ) (value : ℕ) → IsStepOn w intent → same_word w n ≡ false → word_after n (carried_out intent memory) value ≡ value
effect_there w n intent memory value h1 h2 = grind (arith, nat_tests, eqb-true, eqb-false)

pub carried_here : {V : Type 0} (w : Word) (intent : Intent V) (memory : Word → ℕ) → IsStepOn w intent → carried_out intent memory ≡ carried_out intent (λ _. memory w)
carried_here w intent memory h1 = grind (arith, nat_tests, eqb-true, eqb-false)
