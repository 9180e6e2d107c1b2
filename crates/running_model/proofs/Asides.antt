-- A step on no word tells nothing, and leaves all words and holds.
use Rattle.running_model.proofs.Names.{Word, HoldKind, Intent, Act, Table, carried_out, value_told, PendingCall, word_after, hold_after, ◌≡◌, ℕ, refl, Option, None, arith, nat_tests, IsAside, IsOnNoWord, on_no_word}

pub aside_tells_nothing : {V : Type 0} (intent : Intent V) (memory : Word → ℕ) → IsAside intent → value_told (carried_out intent memory) ≡ None
aside_tells_nothing intent memory aside = grind (arith, nat_tests)

pub is_on_no_word : {V : Type 0} (intent : Intent V) (memory : Word → ℕ) → IsAside intent → IsOnNoWord (carried_out intent memory)
is_on_no_word intent memory aside = grind (arith, nat_tests)

pub quiet_words : {V : Type 0} (n : Word) (act : Act V) (value : ℕ) → IsOnNoWord act → word_after n act value ≡ value
quiet_words {V} n act value = on_no_word (λ (a : Act V). word_after n a value ≡ value) (λ call. refl) (λ action. refl) (λ choice. refl) (λ wake. refl) refl (λ cell. refl) act

pub quiet_hold : {V P : Type 0} (t : Table V P) (act : Act V) (pending : Option (PendingCall V)) (hold : Option HoldKind) → IsOnNoWord act → hold_after t act pending hold ≡ hold
quiet_hold {V} t act pending hold = on_no_word (λ (a : Act V). hold_after t a pending hold ≡ hold) (λ call. refl) (λ action. refl) (λ choice. refl) (λ wake. refl) refl (λ cell. refl) act
