-- The parties of the model that a pass of a semaphore is, and how their calls go.
use Rattle.std.specs.Prelude.{ℕ, ◌-◌, Bool, List, None, MatchBool}
use Rattle.running_semaphore.specs.Names.{Call, Answer, within, refused, SemaphorePlace, try_look, look, semaphore_model, Slot, Parties, Coming, ComesBy, Leads, HasEnded}
use Rattle.model_events.specs.declared.patience.Patience.{Patience}
use Rattle.model_events.specs.declared.row.After.{After}

-- A call that wants a permit: a `TryWait`, or a `Wait` that has this patience.
pub data Wanting : Type 0 where
  Trying : Wanting
  Waiting : Patience → Wanting

abbrev pub call_of : Wanting → Call ℕ
call_of Trying = Call.TryWait
call_of (Waiting patience) = Call.Wait

-- where it looks, and where it takes a permit from what it saw
abbrev pub look_of : Wanting → SemaphorePlace
look_of Trying = SemaphorePlace.TryLook
look_of (Waiting patience) = SemaphorePlace.Look patience

abbrev pub take_of : Wanting → ℕ → SemaphorePlace
take_of Trying seen = SemaphorePlace.TryTake seen (seen - 1)
take_of (Waiting patience) seen = SemaphorePlace.Take seen (seen - 1) patience

-- how it goes on by what it saw, and where that was 0
abbrev pub once_seen : Wanting → ℕ → After ℕ SemaphorePlace
once_seen Trying seen = try_look seen
once_seen (Waiting patience) seen = look patience seen

abbrev pub once_empty : Wanting → After ℕ SemaphorePlace
once_empty Trying = After.Ends Answer.Interrupted
once_empty (Waiting patience) = within SemaphorePlace.Look (refused patience 0)

module _ (initial : ℕ) where
  -- a call of the pass that wants a permit comes so to its look
  pub record MayWant (coming : Coming ℕ) (p : Parties ℕ) : Type 0 where
    pub wanting : Wanting
    pub done : List (Slot ℕ)
    pub comes : ComesBy (semaphore_model initial) coming (call_of wanting) (look_of wanting) None done p

  -- what follows from where it came to its look
  abbrev pub OnceWanting : Coming ℕ → Parties ℕ → (Wanting → List (Slot ℕ) → Type 0) → Type 0
  OnceWanting coming p Then = (wanting : Wanting) (done : List (Slot ℕ)) → ComesBy (semaphore_model initial) coming (call_of wanting) (look_of wanting) None done p → Then wanting done

  -- it saw this last, and goes on so
  abbrev pub HasLooked : Wanting → ℕ → List (Slot ℕ) → Parties ℕ → Type 0
  HasLooked wanting seen done p = Leads (semaphore_model initial) (call_of wanting) (once_seen wanting seen) None done p

  -- it saw no permit
  abbrev pub FoundNone : Wanting → List (Slot ℕ) → Parties ℕ → Type 0
  FoundNone wanting done p = Leads (semaphore_model initial) (call_of wanting) (once_empty wanting) None done p

  -- it took a permit
  abbrev pub HasOne : Wanting → List (Slot ℕ) → Parties ℕ → Type 0
  HasOne wanting done p = HasEnded (semaphore_model initial) (call_of wanting) Answer.Success None done p

  -- wherever it saw this last, it then took a permit, or saw none
  abbrev pub HasWanted : ℕ → Bool → Parties ℕ → Parties ℕ → Type 0
  HasWanted seen took p q = (wanting : Wanting) (done : List (Slot ℕ)) → HasLooked wanting seen done p → MatchBool took (HasOne wanting done q) (FoundNone wanting done q)
