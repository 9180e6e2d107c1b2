-- How a reader of either lock goes on, and what it saw.
use Rattle.std.specs.Prelude.{◌≡◌, ◌≢◌, ◌⊎◌, ℕ, ◌+◌, ◌≤◌, ◌==◌, MatchBool, List, Some, None}
use Rattle.running_rw_hold.specs.Names.{HoldKind, Pass, part_of, sights_of, looked, wrote}
use Rattle.model_events.specs.declared.event.Answer.{Answer}
use Rattle.model_events.specs.declared.event.Call.{Call}
use Rattle.model_events.specs.declared.patience.Patience.{Patience}
use Rattle.running_passes.specs.declared.part.Part.{Part}
use Rattle.running_model.specs.declared.played.Played.{Played}
use Rattle.running_model.specs.Counts.{HasSeen, HasMissed, HasDone, HasOnlySeen}
use Rattle.running_model.specs.Models.{Model}
use Rattle.running_model.specs.Passes.{parties_of, counts_of, counted}
use Rattle.running_model.specs.Plays.{Coming, Leads, HasEnded}
use Rattle.running_model.specs.Slots.{Slot, Parties}
use Rattle.running_model.specs.Tries.{MayTry, Tried, IsGranted}

module _ {V P : Type 0} (m : Model V P) (once : P) (place : Patience → P) where
  -- a `TryReadLock` saw this, and goes on so
  abbrev pub HasLookedOnce : ℕ → List (Slot V) → Parties V → Type 0
  HasLookedOnce seen done p = Leads m Call.TryReadLock (m.table.after once (Some seen)) None done p

  -- a `ReadLock` saw this last, and goes on so
  abbrev pub HasLooked : Patience → ℕ → List (Slot V) → Parties V → Type 0
  HasLooked patience seen done p = Leads m Call.ReadLock (m.table.after (place patience) (Some seen)) None done p

  -- one of the two calls comes to a look, or has seen this
  abbrev pub MayLook : Coming V → Parties V → Type 0
  MayLook coming p = MayTry m Call.TryReadLock (λ _. once) coming p ⊎ MayTry m Call.ReadLock place coming p

  abbrev pub MayEnter : ℕ → Parties V → Type 0
  MayEnter seen p = ((done : List (Slot V)) × HasLookedOnce seen done p) ⊎ ((patience : Patience) × (done : List (Slot V)) × HasLooked patience seen done p)

module _ {M P C : Type 0} (m : Model ℕ P) (once : P) (place : Patience → P) (only : Part → C → Type 0) (word_of : C → ℕ) where
  -- A look saw this, and its pass counted nothing. Where nobody else changes the word, that is what its holds come to.
  pub record HasLookedAt (coming : Coming ℕ) (found : ℕ) (p q : Pass (Played M P ℕ C)) : Type 0 where
    pub saw : HasSeen found p q
    pub alone : only (part_of p) (counts_of p) → found ≡ word_of (counts_of p)
    pub once_led : Tried m Call.TryReadLock (λ _. once) coming (parties_of p) (λ _ done. HasLookedOnce m once place found done (parties_of q))
    pub led : Tried m Call.ReadLock place coming (parties_of p) (λ patience done. HasLooked m once place patience found done (parties_of q))

  -- An exchange of the value seen for that with one more reader, which found this. It turned a read hold on, or it saw another value.
  pub record HasTriedToEnter (reads : C → C) (moves : Part → C → C → ℕ → Type 0) (seen found : ℕ) (p q : Pass (Played M P ℕ C)) : Type 0 where
    pub done : found ≡ seen → HasDone reads p q
    pub moved : found ≡ seen → moves (part_of p) (counts_of p) (reads (counts_of p)) seen
    pub failed : found ≢ seen → HasMissed seen found p q
    pub alone : only (part_of p) (counts_of p) → found ≡ word_of (counts_of p)
    pub once_led : (others : List (Slot ℕ)) → HasLookedOnce m once place seen others (parties_of p) →
        MatchBool (found == seen) (HasEnded m Call.TryReadLock Answer.Success (Some HoldKind.Read) others (parties_of q)) (HasEnded m Call.TryReadLock Answer.Interrupted None others (parties_of q))
    pub led : (patience : Patience) (others : List (Slot ℕ)) → HasLooked m once place patience seen others (parties_of p) →
        MatchBool (found == seen) (IsGranted m Call.ReadLock place (Some HoldKind.Read) others (parties_of q)) (HasLooked m once place patience found others (parties_of q))

module _ {M Q V C : Type 0} where
  -- one look saw the value from which the read hold was then turned on, and nothing else changed
  abbrev pub HasReadFrom : (C → C) → Pass (Played M Q V C) → Pass (Played M Q V C) → Type 0
  HasReadFrom reads p q = counted q ≡ wrote (looked (counted p) (sights_of q).last) (reads (counts_of p))

  -- Within a `read_lock`: it saw the lock, this last, and counted nothing. Where nobody else changes the word, it looked once, and saw what its
  -- pass's holds come to.
  pub record HasSeenLast (only : Part → C → Type 0) (word_of : C → ℕ) (found : ℕ) (p q : Pass (Played M Q V C)) : Type 0 where
    pub stayed : HasOnlySeen p q
    pub more : (sights_of p).count + 1 ≤ (sights_of q).count
    pub last : (sights_of q).last ≡ found
    pub once : only (part_of p) (counts_of p) → (sights_of q).count ≡ (sights_of p).count + 1
    pub says : only (part_of p) (counts_of p) → found ≡ word_of (counts_of p)
