-- A lock for one holder: an object whose locking exchange puts 1 in the place of 0, and whose release stores 0.
use Rattle.model_events.proofs.Names.{nat_tests, ◌≡◌, ℕ, refl, true, cond, is_some, List, [], ◌∷◌, Option, Some, ◌⊎◌, inl, ◌↔◌, arith, eqb-true, eqb-false, Arithmetic, carried_out, Table, Hold, PendingCall, call_of, holds_of, hold_of, hold_among, word_in, word_after, without, with_hold, is_release, hold_taken, Move, stage_of, IsPast, IsExclusive, Word, Act, Event, HoldKind, Intent}
use Rattle.model_events.proofs.Steps.{by_move}

-- what a step of such an object may do to the lock's word: take the lock, as far as its call grants a write hold, or release it with a hold
abbrev pub IsLockIntent : {T : Type 0} → Option HoldKind → Option HoldKind → Intent T → Type 0
IsLockIntent grant hold (Intent.Exchange Word.State from to) = (from ≡ 0) × (to ≡ 1) × (grant ≡ Some HoldKind.Write)
IsLockIntent grant hold (Intent.Swap Word.State put) = (put ≡ 1) × (grant ≡ Some HoldKind.Write)
IsLockIntent grant hold (Intent.Store Word.State put) = (put ≡ 0) × (is_some hold ≡ true)
IsLockIntent grant hold (Intent.Add Word.State more) = ⊥
IsLockIntent grant hold (Intent.Subtract Word.State less) = ⊥
IsLockIntent grant hold other = Unit {0}

pub record IsLock {T P : Type 0} (z : Arithmetic T) (t : Table T P) (parties : ℕ) : Type 0 where
  pub opens : t.opening Word.State ≡ 0
  pub steps :
      (past : List (Event T)) (party : ℕ) (c : PendingCall T) (place : P) → IsPast z t parties past → call_of party past ≡ Some c → stage_of t c ≡ Some place →
      IsLockIntent (t.grant c.call 0 1) (hold_of t party past) (t.intent place (hold_of t party past))

-- the word is 0 and nobody holds the lock, or it is 1 and one party does
abbrev pub IsFreeOrHeld : ℕ → List Hold → Type 0
IsFreeOrHeld w holds = ((w ≡ 0) × (holds ≡ [])) ⊎ ((p : ℕ) × (w ≡ 1) × (holds ≡ (p, HoldKind.Write) ∷ []))

-- the holds after an act of a party
abbrev pub holds_after : {T P : Type 0} → Table T P → ℕ → Option (PendingCall T) → Act T → List Hold → List Hold
holds_after t p pending act holds = cond (is_release act) (without p holds) (with_hold p (hold_taken t act pending) holds)

-- the only hold goes with its holder
pub without_only : (p q : ℕ) → is_some (hold_among p ((q, HoldKind.Write) ∷ [])) ≡ true → without p ((q, HoldKind.Write) ∷ []) ≡ []
without_only p q h1 = grind (arith, nat_tests, eqb-true, eqb-false)

-- a step keeps the rule
step_keeps :
    {T P : Type 0} (t : Table T P) (p : ℕ) (c : PendingCall T) (memory : Word → ℕ) (holds : List Hold) (intent : Intent T) →
    IsFreeOrHeld (memory Word.State) holds → IsLockIntent (t.grant c.call 0 1) (hold_among p holds) intent →
    IsFreeOrHeld (word_after Word.State (carried_out intent memory) (memory Word.State)) (holds_after t p (Some c) (carried_out intent memory) holds)
step_keeps t p c memory holds intent h1 h2 = grind (arith, nat_tests, eqb-true, eqb-false)

-- at every prefix the word counts the holds, of which there is one at most
pub lock_word : {T P : Type 0} (z : Arithmetic T) (t : Table T P) (parties : ℕ) → IsLock z t parties → (past : List (Event T)) → IsPast z t parties past → IsFreeOrHeld (word_in t past Word.State) (holds_of t past)
lock_word z t parties lock [] run = inl (lock.opens, refl)
lock_word {T} {P} z t parties lock (e ∷ past) run =
    let before = lock_word z t parties lock past run.1 in
    by_move t (call_of e.party past) (hold_of t e.party past) (word_in t past)
    (λ (k : Option (PendingCall T)) (x : Move T). IsFreeOrHeld (word_after Word.State x.act (word_in t past Word.State)) (holds_after t e.party k x.act (holds_of t past)))
    run.0.0 (record { act = e.act; outcome = e.then }) (λ call _. before) (λ action _. before) (λ choice _. before)
    (λ c place _ called stage. step_keeps t e.party c (word_in t past) (holds_of t past) (t.intent place (hold_of t e.party past)) before (lock.steps past e.party c place run.1 called stage))
    run.0.1.moved

pub lock_exclusive : (w : ℕ) (holds : List Hold) → IsFreeOrHeld w holds → IsExclusive holds
lock_exclusive w holds h1 = grind (arith, nat_tests, eqb-true, eqb-false)

pub free_exactly : (w : ℕ) (holds : List Hold) → IsFreeOrHeld w holds → (w ≡ 0) ↔ (holds ≡ [])
free_exactly w holds h1 = grind (arith, nat_tests, eqb-true, eqb-false)
