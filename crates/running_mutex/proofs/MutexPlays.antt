-- The steps of a mutex are those of its table.
use Rattle.running_mutex.proofs.Names.{MatchBool, Word, Call, Answer, HoldKind, Intent, MutexPlace, mutex_intent, mutex_model, Slot, Parties, all_of, Coming, Beginning, Continuing, ComesBy, IsHolding, Led, HasCalled, MayStep, Went, spun, IsRefused, IsGranted, MayTry, IsToWake, ◌≡◌, ◌≢◌, ℕ, ◌==◌, Bool, true, false, refl, subst, List, [], ◌∷◌, Some, None, ne_eqb, IsOverAside, HasMutex, Unlocks, nat_tests, eqb-true, eqb-false, arith}
use Rattle.model_events.specs.declared.patience.Patience.{Patience}
use Rattle.running_model.proofs.Holding.{holding_told, holding_is}

-- how the calls begin

pub try_begins : (p : Parties ℕ) → ComesBy mutex_model (Beginning Call.TryLock) Call.TryLock MutexPlace.TryLock None (all_of p) p
try_begins p = (refl, record { may = record { begins = refl; free = refl; values = tt }; new = refl; others = refl })

pub lock_begins : (p : Parties ℕ) → ComesBy mutex_model (Beginning Call.Lock) Call.Lock (MutexPlace.Lock (spun 0)) None (all_of p) p
lock_begins p = (refl, record { may = record { begins = refl; free = refl; values = tt }; new = refl; others = refl })

pub unlock_begins : (done : List (Slot ℕ)) (p : Parties ℕ) → IsHolding mutex_model HoldKind.Write done p → ComesBy mutex_model (Continuing Call.Unlock) Call.Unlock MutexPlace.Release (Some HoldKind.Write) done p
unlock_begins done p holding = (refl, record { kind = HoldKind.Write; may = record { begins = refl; free = refl; values = tt }; kept = refl; holding = holding })

-- the exchange that the table has

may_exchange : (coming : Coming ℕ) (call : Call ℕ) (place : MutexPlace) (done : List (Slot ℕ)) (p : Parties ℕ) (put : ℕ) → put ≡ 1 → ◌≡◌ {A = Intent ℕ} (mutex_intent Word.State place) (Intent.Exchange Word.State 0 1) →
    ComesBy mutex_model coming call place None done p → MayStep mutex_model (Word.State ∷ []) coming 0 (λ w. Intent.Exchange w 0 put) p
may_exchange coming call place done p put h1 h2 h3 = grind (arith, nat_tests, eqb-true, eqb-false)

pub may_try_lock : (p : Parties ℕ) (put : ℕ) → put ≡ 1 → MayStep mutex_model (Word.State ∷ []) (Beginning Call.TryLock) 0 (λ w. Intent.Exchange w 0 put) p
may_try_lock p put is = may_exchange _ Call.TryLock MutexPlace.TryLock (all_of p) p put is refl (try_begins p)

pub may_lock : (coming : Coming ℕ) (p : Parties ℕ) (put : ℕ) → put ≡ 1 → MayTry mutex_model Call.Lock MutexPlace.Lock coming p →
    MayStep mutex_model (Word.State ∷ []) coming 0 (λ w. Intent.Exchange w 0 put) p
may_lock coming p put is may = may_exchange coming Call.Lock (MutexPlace.Lock may.patience) may.done p put is refl may.comes

-- where it leads

tried : (found : ℕ) (b : Bool) (p q : Parties ℕ) → (found == 0) ≡ b → b ≡ false → Led mutex_model Call.TryLock MutexPlace.TryLock None found (all_of p) q → HasCalled mutex_model Call.TryLock Answer.Interrupted None p q
tried found b p q h1 h2 h3 = grind (arith, nat_tests, eqb-true, eqb-false)

pub try_ends : (free : Bool) (found : ℕ) (p q : Parties ℕ) → MatchBool free (found ≡ 0) (found ≢ 0) → Went mutex_model (Beginning Call.TryLock) p found q →
    MatchBool free (HasCalled mutex_model Call.TryLock Answer.Success (Some HoldKind.Write) p q) (HasCalled mutex_model Call.TryLock Answer.Interrupted None p q)
try_ends true found p q hit went = subst (λ n. Led mutex_model Call.TryLock MutexPlace.TryLock None n (all_of p) q) hit (went Call.TryLock MutexPlace.TryLock None (all_of p) (try_begins p))
try_ends false found p q miss went = tried found (found == 0) p q refl (ne_eqb found 0 miss) (went Call.TryLock MutexPlace.TryLock None (all_of p) (try_begins p))

refused_so : (found : ℕ) (b : Bool) (patience : Patience) (done : List (Slot ℕ)) (q : Parties ℕ) → (found == 0) ≡ b → b ≡ false →
    Led mutex_model Call.Lock (MutexPlace.Lock patience) None found done q → IsRefused mutex_model Call.Lock MutexPlace.Lock patience 1 done q
refused_so found b patience done q h1 h2 h3 = grind (arith, nat_tests, eqb-true, eqb-false)

pub lock_goes : (free : Bool) (coming : Coming ℕ) (found : ℕ) (patience : Patience) (done : List (Slot ℕ)) (p q : Parties ℕ) → MatchBool free (found ≡ 0) (found ≢ 0) → Went mutex_model coming p found q →
    ComesBy mutex_model coming Call.Lock (MutexPlace.Lock patience) None done p →
    MatchBool free (IsGranted mutex_model Call.Lock MutexPlace.Lock (Some HoldKind.Write) done q) (IsRefused mutex_model Call.Lock MutexPlace.Lock patience 1 done q)
lock_goes free coming found patience done p q h1 h2 h3 = grind (arith, nat_tests, eqb-true, eqb-false, ne_eqb, refused_so)

-- the first exchange of a `Lock`
pub lock_first : (free : Bool) (p q : Parties ℕ) → (found : ℕ) × MatchBool free (found ≡ 0) (found ≢ 0) × Went mutex_model (Beginning Call.Lock) p found q →
    MatchBool free (IsGranted mutex_model Call.Lock MutexPlace.Lock (Some HoldKind.Write) (all_of p) q) (IsRefused mutex_model Call.Lock MutexPlace.Lock (spun 0) 1 (all_of p) q)
lock_first free p q t = lock_goes free (Beginning Call.Lock) t.0 (spun 0) (all_of p) p q t.1 t.2 (lock_begins p)

-- who was granted the mutex has it
pub granted_has : (call : Call ℕ) (p q : Parties ℕ) → HasCalled mutex_model call Answer.Success (Some HoldKind.Write) p q → HasMutex q
granted_has call p q ended = holding_is mutex_model HoldKind.Write (all_of p) q ended.rests

-- `Unlock`

pub may_unlock : (p : Parties ℕ) → HasMutex p → MayStep mutex_model (Word.State ∷ []) (Continuing Call.Unlock) 0 (λ w. Intent.Store w 0) p
may_unlock p has = grind (arith, nat_tests, eqb-true, eqb-false, unlock_begins p.resting p (holding_told mutex_model HoldKind.Write p has))

pub unlocks : (p q : Parties ℕ) → Went mutex_model (Continuing Call.Unlock) p 0 q → Unlocks p q
unlocks p q went = λ done holding. went Call.Unlock MutexPlace.Release (Some HoldKind.Write) done (unlock_begins done p holding)

pub is_to_wake : (i : ℕ) (p q : Parties ℕ) → i ≡ 0 → HasMutex p → Unlocks p q → IsToWake mutex_model (Word.State ∷ []) (λ (_ : MutexPlace). Word.State) i q
is_to_wake i p q is has unlocked = grind (arith, nat_tests, eqb-true, eqb-false, unlocked p.resting (holding_told mutex_model HoldKind.Write p has))

-- how it is over

pub unlock_is_over : (p q : Parties ℕ) → HasMutex p → Unlocks p q → IsOverAside mutex_model q
unlock_is_over p q has unlocked = record {
  call = Call.Unlock;
  place = MutexPlace.Wake;
  hold = None;
  done = p.resting;
  at = unlocked p.resting (holding_told mutex_model HoldKind.Write p has);
  aside = tt;
  answer = Answer.Done;
  ends = refl;
}
