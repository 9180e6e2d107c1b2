-- A call that tries again until it is granted or gives up.
use Rattle.std.specs.Prelude.{◌≡◌, ℕ, true, List, Option, None}
use Rattle.running_model.specs.Names.{Word, Wake, Call, Answer, Then, HoldKind, Patience, Intent, within, refused}
use Rattle.running_model.specs.Models.{Model}
use Rattle.running_model.specs.Slots.{Slot, Parties}
use Rattle.running_model.specs.Words.{IsNamed}
use Rattle.running_model.specs.Plays.{Coming, ComesBy, IsAt, Leads, HasEnded}

-- the patience of a call that has spun so often, and keeps on asking
abbrev pub spun : ℕ → Patience
spun n = record { spins = n; keep = true }

module _ {V P : Type 0} (m : Model V P) (call : Call V) (place : Patience → P) where
  -- the pass comes to a try of its call
  pub record MayTry (coming : Coming V) (p : Parties V) : Type 0 where
    pub patience : Patience
    pub done : List (Slot V)
    pub comes : ComesBy m coming call (place patience) None done p

  -- a try led to this, whatever patience was left
  abbrev pub Tried : Coming V → Parties V → (Patience → List (Slot V) → Type 0) → Type 0
  Tried coming p Then = (patience : Patience) (done : List (Slot V)) → ComesBy m coming call (place patience) None done p → Then patience done

  -- the call was refused, by a word that held this
  abbrev pub IsRefused : Patience → ℕ → List (Slot V) → Parties V → Type 0
  IsRefused patience seen done p = Leads m call (within place (refused patience seen)) None done p

  -- it stands at its wait closure, to be told this
  abbrev pub IsStanding : ℕ → List (Slot V) → Parties V → Type 0
  IsStanding told done p = IsAt m call (place (spun 10000)) (Then.Waits told) None done p

  -- it was granted, and has taken this hold
  abbrev pub IsGranted : Option HoldKind → List (Slot V) → Parties V → Type 0
  IsGranted kind done p = HasEnded m call Answer.Success kind done p

  -- it gave up
  abbrev pub HasGivenUp : List (Slot V) → Parties V → Type 0
  HasGivenUp done p = HasEnded m call Answer.Interrupted None done p

  -- what follows from where a first try was refused, by a word that held this
  abbrev pub OnceRefused : ℕ → Parties V → (List (Slot V) → Type 0) → Type 0
  OnceRefused seen p Then = (done : List (Slot V)) → IsRefused (spun 0) seen done p → Then done

  -- what follows from where it stood, to be told this
  abbrev pub OnceStanding : ℕ → Parties V → (List (Slot V) → Type 0) → Type 0
  OnceStanding told p Then = (done : List (Slot V)) → IsStanding told done p → Then done

-- Closures.

-- the next that a call of the pass does is to end its closure
pub record IsToEnd {V P : Type 0} (m : Model V P) (p : Parties V) : Type 0 where
  pub call : Call V
  pub place : P
  pub hold : Option HoldKind
  pub done : List (Slot V)
  pub at : IsAt m call place Then.GoesOn hold done p
  pub ends : m.table.intent place hold ≡ Intent.End

module _ {V P : Type 0} (m : Model V P) (names : List Word) (handed : P → Word) where
  -- a call of the pass stands at its wait closure, which is to be told this, and handed the word at this index
  pub record StandsToWait (index told : ℕ) (p : Parties V) : Type 0 where
    pub call : Call V
    pub place : P
    pub hold : Option HoldKind
    pub done : List (Slot V)
    pub at : IsAt m call place (Then.Waits told) hold done p
    pub word : IsNamed names index (handed place)

  -- the next that a call of the pass does is to call its wake closure, of the word at this index
  pub record IsToWake (index : ℕ) (p : Parties V) : Type 0 where
    pub call : Call V
    pub place : P
    pub hold : Option HoldKind
    pub done : List (Slot V)
    pub at : IsAt m call place Then.GoesOn hold done p
    pub who : Wake
    pub wakes : m.table.intent place hold ≡ Intent.Wake who
    pub word : IsNamed names index (handed place)
