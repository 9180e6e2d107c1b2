-- What a call has made that brings a closure, at each place of a once, and so that its step there is the next: by its own events alone, so it serves an
-- object with a once inside too.
use Rattle.model_once.proofs.Names.{◌≡◌, ℕ, ◌==◌, refl, Bool, true, false, cond, List, ◌∷◌, Some, None, ◌⊎◌, inl, inr, arith, eqb-true, eqb-false, nat_tests, Word, Act, Event, Then, event, is_step, is_exchange, last_of, OncePlace, has_tried}

-- its latest step was a look that saw no 2
abbrev pub HasLooked : {T : Type 0} → List (Event T) → Type 0
HasLooked own = (w : ℕ) × (last_of is_step own ≡ Some (Act.Load Word.State w)) × ((w == 2) ≡ false)

-- or its exchange
abbrev pub HasExchanged : {T : Type 0} → Bool → List (Event T) → Type 0
HasExchanged done own = (w : ℕ) × (last_of is_step own ≡ Some (Act.Exchange Word.State 0 1 w done))

abbrev pub IsLed : {T : Type 0} → OncePlace → List (Event T) → Type 0
IsLed OncePlace.IsCompleted own = last_of is_step own ≡ None
IsLed OncePlace.Look own = (last_of is_step own ≡ None) × (has_tried own ≡ false)
IsLed OncePlace.Begin own = HasLooked own × (has_tried own ≡ false)
IsLed OncePlace.Run own = HasExchanged true own
IsLed OncePlace.Complete own = last_of is_step own ≡ Some Act.Ended
IsLed OncePlace.Stay own = (HasLooked own ⊎ HasExchanged false own) × (has_tried own ≡ true)

-- Where each step leads.

pub look_led : {T : Type 0} (own : List (Event T)) (w number : ℕ) (outcome : Then T) → (w == 2) ≡ false → has_tried own ≡ false → IsLed OncePlace.Begin (event number (Act.Load Word.State w) outcome ∷ own)
look_led own w number outcome sees first = ((w, refl, sees), first)

pub stay_led : {T : Type 0} (own : List (Event T)) (w number : ℕ) (outcome : Then T) → (w == 2) ≡ false → has_tried own ≡ true → IsLed OncePlace.Stay (event number (Act.Load Word.State w) outcome ∷ own)
stay_led own w number outcome sees later = (inl (w, refl, sees), later)

pub begin_led : {T : Type 0} (own : List (Event T)) (w number : ℕ) (outcome : Then T) → IsLed OncePlace.Run (event number (Act.Exchange Word.State 0 1 w true) outcome ∷ own)
begin_led own w number outcome = (w, refl)

pub miss_led : {T : Type 0} (own : List (Event T)) (w number : ℕ) (outcome : Then T) → IsLed OncePlace.Stay (event number (Act.Exchange Word.State 0 1 w false) outcome ∷ own)
miss_led own w number outcome = (inr (w, refl), refl)

-- an answer of a closure is no step
pub quiet_led : {T : Type 0} (place : OncePlace) (own : List (Event T)) (e : Event T) → is_step e.act ≡ false → is_exchange e.act ≡ false → IsLed place own → IsLed place (e ∷ own)
quiet_led place own e h1 h2 h3 = grind (arith, nat_tests, eqb-true, eqb-false)

-- Each step follows.

-- how a look leaves a call
abbrev pub looked : {T : Type 0} → Then T → ℕ → Then T
looked complete w = cond (w == 2) complete Then.GoesOn
