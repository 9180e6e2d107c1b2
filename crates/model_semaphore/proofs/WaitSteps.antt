-- What each step of a `Wait` for a permit leads to, at any word, by the events that the call has made for it alone: so it serves a wait inside another
-- call too.
use Rattle.model_semaphore.proofs.Names.{◌≡◌, ◌≢◌, ℕ, ◌+◌, ◌-◌, ◌==◌, true, false, List, ◌∷◌, Some, arith, eqb-true, eqb-false, HasSpun, nat_tests, Word, Act, Answer, Event, Then, After, carried_out, value_told, latest_outcome, event, sight_of, is_abort, keeps_asking, spins_in, SemaphorePlace, semaphore_intent, semaphore_after, is_take, is_empty_look}

pub one_less : (v : ℕ) → v ≢ 0 → v ≡ (v - 1) + 1
one_less v other = omega arith

-- the events of a call that waits for a permit
abbrev pub AtWait : {T : Type 0} → SemaphorePlace → List (Event T) → Type 0
AtWait (SemaphorePlace.Look patience) own = HasSpun is_empty_look patience own
AtWait (SemaphorePlace.Take seen to patience) own = HasSpun is_empty_look patience own × (seen ≡ to + 1) × (latest_outcome own ≡ Then.GoesOn)
AtWait other own = ⊥

-- How a call goes on after a step on the word: it tries again, or stands after 10000 spins, where it still asks, and is told what it saw; where it succeeds it has taken a permit, and where it
-- gives up it saw none, after its closure answered Abort.
abbrev pub WaitLeads : {T : Type 0} → Word → List (Event T) → ℕ → Act T → After T SemaphorePlace → Type 0
WaitLeads word own number act (After.At next) = AtWait next (event number act Then.GoesOn ∷ own) × (is_take word act ≡ false)
WaitLeads word own number act (After.Waits next seen) = AtWait next (event number act (Then.Waits seen) ∷ own) × (is_take word act ≡ false) × (spins_in is_empty_look own ≡ 10000) × (keeps_asking own ≡ true) × (sight_of word act ≡ Some seen)
WaitLeads word own number act (After.Ends Answer.Success) = is_take word act ≡ true
WaitLeads word own number act (After.Ends Answer.Interrupted) = (sight_of word act ≡ Some 0) × (is_take word act ≡ false) × (keeps_asking own ≡ false)
WaitLeads word own number act other = ⊥

-- a look: an act that told the value, and took nothing
record IsLookAt {T : Type 0} (word : Word) (v : ℕ) (act : Act T) : Type 0 where
  sees : sight_of word act ≡ Some v
  takes : is_take word act ≡ false
  quiet : is_abort act ≡ false
  empty : is_empty_look act ≡ (v == 0)

pub wait_leads :
    {T : Type 0} (word : Word) (place : SemaphorePlace) (own : List (Event T)) (number : ℕ) (memory : Word → ℕ) → AtWait place own →
    WaitLeads {T = T} word own number (carried_out (semaphore_intent word place) memory) (semaphore_after place (value_told {T = T} (carried_out (semaphore_intent word place) memory)))
wait_leads word place own number memory h1 = grind (arith, nat_tests, eqb-true, eqb-false)
