-- The steps of a spin lock are those of its table.
use Rattle.running_spin_lock.proofs.Names.{MatchBool, Word, Call, Answer, HoldKind, Intent, SpinPlace, Slot, Parties, all_of, Coming, Going, Beginning, Continuing, ComesBy, IsHolding, Led, HasCalled, MayStep, Went, ◌≡◌, ◌≢◌, ℕ, Bool, true, false, refl, subst, List, [], ◌∷◌, Some, None, is_over, spin_model, IsOver, holding_told, holding_is, IsWaiting, IsSpinning, IsGranted, HasLock, Unlocks, arith, nat_tests, eqb-true, eqb-false}

-- how the calls begin

pub try_begins : (p : Parties ℕ) → ComesBy spin_model (Beginning Call.TryLock) Call.TryLock SpinPlace.TryLock None (all_of p) p
try_begins p = (refl, record { may = record { begins = refl; free = refl; values = tt }; new = refl; others = refl })

pub lock_begins : (call : Call ℕ) (p : Parties ℕ) → IsWaiting call → ComesBy spin_model (Beginning call) call SpinPlace.Lock None (all_of p) p
lock_begins call p h1 = grind (arith, nat_tests, eqb-true, eqb-false)

pub unlock_begins : (done : List (Slot ℕ)) (p : Parties ℕ) → IsHolding spin_model HoldKind.Write done p → ComesBy spin_model (Continuing Call.Unlock) Call.Unlock SpinPlace.Release (Some HoldKind.Write) done p
unlock_begins done p holding = (refl, record { kind = HoldKind.Write; may = record { begins = refl; free = refl; values = tt }; kept = refl; holding = holding })

-- the swap that the table has

abbrev MaySwap : Coming ℕ → Parties ℕ → Type 0
MaySwap way p = MayStep spin_model (Word.State ∷ []) way 0 (λ w. Intent.Swap w 1) p

pub may_spin : (call : Call ℕ) (done : List (Slot ℕ)) (p : Parties ℕ) → IsSpinning call done p → MaySwap Going p
may_spin call done p h1 = grind (arith, nat_tests, eqb-true, eqb-false)

-- where it leads

refused : (found : ℕ) (p q : Parties ℕ) → found ≢ 0 → Led spin_model Call.TryLock SpinPlace.TryLock None found (all_of p) q → HasCalled spin_model Call.TryLock Answer.Interrupted None p q
refused found p q h1 h2 = grind (arith, nat_tests, eqb-true, eqb-false)

pub try_ends : (free : Bool) (found : ℕ) (p q : Parties ℕ) → MatchBool free (found ≡ 0) (found ≢ 0) → Went spin_model (Beginning Call.TryLock) p found q →
    MatchBool free (HasCalled spin_model Call.TryLock Answer.Success (Some HoldKind.Write) p q) (HasCalled spin_model Call.TryLock Answer.Interrupted None p q)
try_ends true found p q hit went = subst (λ n. Led spin_model Call.TryLock SpinPlace.TryLock None n (all_of p) q) hit (went Call.TryLock SpinPlace.TryLock None (all_of p) (try_begins p))
try_ends false found p q miss went = refused found p q miss (went Call.TryLock SpinPlace.TryLock None (all_of p) (try_begins p))

pub lock_goes : (free : Bool) (way : Coming ℕ) (call : Call ℕ) (found : ℕ) (done : List (Slot ℕ)) (p q : Parties ℕ) → IsWaiting call → MatchBool free (found ≡ 0) (found ≢ 0) →
    Went spin_model way p found q → ComesBy spin_model way call SpinPlace.Lock None done p → MatchBool free (IsGranted call done q) (IsSpinning call done q)
lock_goes free way call found done p q h1 h2 h3 h4 = grind (arith, nat_tests, eqb-true, eqb-false)

-- the first swap, and a further one

pub first_goes : (free : Bool) (call : Call ℕ) (p q : Parties ℕ) → IsWaiting call → (found : ℕ) × MatchBool free (found ≡ 0) (found ≢ 0) × Went spin_model (Beginning call) p found q →
    MatchBool free (IsGranted call (all_of p) q) (IsSpinning call (all_of p) q)
first_goes free call p q waits t = lock_goes free (Beginning call) call t.0 (all_of p) p q waits t.1 t.2 (lock_begins call p waits)

pub spin_goes : (free : Bool) (call : Call ℕ) (done : List (Slot ℕ)) (p q : Parties ℕ) → IsWaiting call → (found : ℕ) × MatchBool free (found ≡ 0) (found ≢ 0) × Went spin_model Going p found q →
    IsSpinning call done p → MatchBool free (IsGranted call done q) (IsSpinning call done q)
spin_goes free call done p q waits t at = lock_goes free Going call t.0 done p q waits t.1 t.2 at

-- who was granted the lock has it
pub granted_has : (call : Call ℕ) (done : List (Slot ℕ)) (q : Parties ℕ) → IsGranted call done q → HasLock q
granted_has call done q ended = holding_is spin_model HoldKind.Write done q ended.rests

-- `Unlock`

pub may_unlock : (p : Parties ℕ) → HasLock p → MayStep spin_model (Word.State ∷ []) (Continuing Call.Unlock) 0 (λ w. Intent.Store w 0) p
may_unlock p has = record {
  call = Call.Unlock;
  place = SpinPlace.Release;
  hold = Some HoldKind.Write;
  done = p.resting;
  comes = unlock_begins p.resting p (holding_told spin_model HoldKind.Write p has);
  name = Word.State;
  named = refl;
  intends = refl;
  on = refl;
}

pub unlocks : (p q : Parties ℕ) → Went spin_model (Continuing Call.Unlock) p 0 q → Unlocks p q
unlocks p q went = λ done holding. went Call.Unlock SpinPlace.Release (Some HoldKind.Write) done (unlock_begins done p holding)

pub unlock_is_over : (p q : Parties ℕ) → HasLock p → Unlocks p q → IsOver spin_model q
unlock_is_over p q has unlocked = is_over spin_model Call.Unlock Answer.Done None p.resting q (unlocked p.resting (holding_told spin_model HoldKind.Write p has))
