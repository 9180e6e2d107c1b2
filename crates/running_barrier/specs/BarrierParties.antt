-- The party of the model that a pass of a barrier is, and how its `Wait` goes.
use Rattle.std.specs.Prelude.{ℕ, List, None}
use Rattle.running_barrier.specs.Names.{Call, Answer, Then, BarrierPlace, look, joined, stay, barrier_model, Slot, Parties, IsAt, Leads, HasEnded}

module _ (n : ℕ) where
  -- it saw this last, before its arrival, and goes on so
  abbrev pub HasLooked : ℕ → List (Slot ℕ) → Parties ℕ → Type 0
  HasLooked seen done p = Leads (barrier_model n) Call.Wait (look n seen) None done p

  -- it has arrived, from this value
  abbrev pub HasJoined : ℕ → List (Slot ℕ) → Parties ℕ → Type 0
  HasJoined from done p = Leads (barrier_model n) Call.Wait (joined n from) None done p

  -- it comes to its first look after its arrival, which was at this epoch
  abbrev pub ComesToStay : ℕ → List (Slot ℕ) → Parties ℕ → Type 0
  ComesToStay epoch done p = IsAt (barrier_model n) Call.Wait (BarrierPlace.Stay epoch 0) Then.GoesOn None done p

  -- after its arrival at this epoch it has spun so often, and saw this last
  abbrev pub Looks : ℕ → ℕ → ℕ → List (Slot ℕ) → Parties ℕ → Type 0
  Looks epoch spins seen done p = Leads (barrier_model n) Call.Wait (stay epoch spins seen) None done p

  -- it was answered `Ok`
  abbrev pub HasLeft : List (Slot ℕ) → Parties ℕ → Type 0
  HasLeft done p = HasEnded (barrier_model n) Call.Wait Answer.Ok None done p

  -- what follows from each of these
  abbrev pub OnceLooked : ℕ → Parties ℕ → (List (Slot ℕ) → Type 0) → Type 0
  OnceLooked seen p Then = (done : List (Slot ℕ)) → HasLooked seen done p → Then done

  abbrev pub OnceToStay : ℕ → Parties ℕ → (List (Slot ℕ) → Type 0) → Type 0
  OnceToStay epoch p Then = (done : List (Slot ℕ)) → ComesToStay epoch done p → Then done

  abbrev pub OnceLooking : ℕ → ℕ → ℕ → Parties ℕ → (List (Slot ℕ) → Type 0) → Type 0
  OnceLooking epoch spins seen p Then = (done : List (Slot ℕ)) → Looks epoch spins seen done p → Then done
