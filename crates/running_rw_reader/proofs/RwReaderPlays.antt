-- The steps of a reader-preferring lock are those of its table.
use Rattle.running_rw_reader.proofs.Names.{Word, Call, Answer, HoldKind, Patience, Intent, RwReaderPlace, rw_reader_intent, rw_reader_model, Slot, Parties, all_of, Coming, Beginning, Continuing, ComesBy, IsHolding, HasCalled, HasEnded, MayStep, Went, spun, IsRefused, IsGranted, MayTry, IsToWake, ◌≡◌, ◌≢◌, ℕ, ◌-◌, ◌^◌, true, refl, List, [], ◌∷◌, Some, None, ne_eqb, arith, eqb-true, eqb-false, nat_tests, has_hold, Unlocks}
use Rattle.running_model.specs.Turns.{IsOverAside}
use Rattle.running_model.proofs.Holding.{holding_told, holding_is}

abbrev Comes : Coming ℕ → Call ℕ → RwReaderPlace → List (Slot ℕ) → Parties ℕ → Type 0
Comes way call place done p = ComesBy rw_reader_model way call place None done p

-- how the calls begin

try_write_begins : (p : Parties ℕ) → Comes (Beginning Call.TryWriteLock) Call.TryWriteLock RwReaderPlace.TryWrite (all_of p) p
try_write_begins p = (refl, record { may = record { begins = refl; free = refl; values = tt }; new = refl; others = refl })

pub write_begins : (p : Parties ℕ) → Comes (Beginning Call.WriteLock) Call.WriteLock (RwReaderPlace.Write (spun 0)) (all_of p) p
write_begins p = (refl, record { may = record { begins = refl; free = refl; values = tt }; new = refl; others = refl })

unlock_begins : (kind : HoldKind) (done : List (Slot ℕ)) (p : Parties ℕ) → IsHolding rw_reader_model kind done p →
    ComesBy rw_reader_model (Continuing Call.Unlock) Call.Unlock RwReaderPlace.Release (Some kind) done p
unlock_begins kind done p holding = (refl, record { kind = kind; may = record { begins = refl; free = refl; values = tt }; kept = refl; holding = holding })

-- a writer's exchange

may_enter : (way : Coming ℕ) (call : Call ℕ) (place : RwReaderPlace) (done : List (Slot ℕ)) (p : Parties ℕ) (put : ℕ) → put ≡ 2 ^ 64 - 1 → ◌≡◌ {A = Intent ℕ} (rw_reader_intent Word.State place None) (Intent.Exchange Word.State 0 (2 ^ 64 - 1)) →
    Comes way call place done p → MayStep rw_reader_model (Word.State ∷ []) way 0 (λ w. Intent.Exchange w 0 put) p
may_enter way call place done p put h1 h2 h3 = grind (arith, nat_tests, eqb-true, eqb-false)

pub may_write_once : (p : Parties ℕ) (put : ℕ) → put ≡ 2 ^ 64 - 1 → MayStep rw_reader_model (Word.State ∷ []) (Beginning Call.TryWriteLock) 0 (λ w. Intent.Exchange w 0 put) p
may_write_once p put is = may_enter _ Call.TryWriteLock RwReaderPlace.TryWrite (all_of p) p put is refl (try_write_begins p)

pub may_write : (way : Coming ℕ) (p : Parties ℕ) → MayTry rw_reader_model Call.WriteLock RwReaderPlace.Write way p → (put : ℕ) → put ≡ 2 ^ 64 - 1 →
    MayStep rw_reader_model (Word.State ∷ []) way 0 (λ w. Intent.Exchange w 0 put) p
may_write way p may put is = may_enter way Call.WriteLock (RwReaderPlace.Write may.patience) may.done p put is refl may.comes

pub first_write : (p : Parties ℕ) → MayTry rw_reader_model Call.WriteLock RwReaderPlace.Write (Beginning Call.WriteLock) p
first_write p = record { patience = spun 0; done = all_of p; comes = write_begins p }

pub wrote_once : (p q : Parties ℕ) → Went rw_reader_model (Beginning Call.TryWriteLock) p 0 q → HasCalled rw_reader_model Call.TryWriteLock Answer.Success (Some HoldKind.Write) p q
wrote_once p q went = went Call.TryWriteLock RwReaderPlace.TryWrite None (all_of p) (try_write_begins p)

pub missed_once : (found : ℕ) (p q : Parties ℕ) → found ≢ 0 → Went rw_reader_model (Beginning Call.TryWriteLock) p found q → HasCalled rw_reader_model Call.TryWriteLock Answer.Interrupted None p q
missed_once found p q miss went = grind (arith, nat_tests, eqb-true, eqb-false, ne_eqb found 0 miss, went Call.TryWriteLock RwReaderPlace.TryWrite None (all_of p) (try_write_begins p))

pub has_written : (way : Coming ℕ) (p q : Parties ℕ) → Went rw_reader_model way p 0 q → (patience : Patience) (done : List (Slot ℕ)) → Comes way Call.WriteLock (RwReaderPlace.Write patience) done p →
    IsGranted rw_reader_model Call.WriteLock RwReaderPlace.Write (Some HoldKind.Write) done q
has_written way p q went patience done comes = went Call.WriteLock (RwReaderPlace.Write patience) None done comes

pub found_taken : (way : Coming ℕ) (found : ℕ) (p q : Parties ℕ) → found ≢ 0 → Went rw_reader_model way p found q → (patience : Patience) (done : List (Slot ℕ)) → Comes way Call.WriteLock (RwReaderPlace.Write patience) done p →
    IsRefused rw_reader_model Call.WriteLock RwReaderPlace.Write patience found done q
found_taken way found p q miss went patience done comes = grind (arith, nat_tests, eqb-true, eqb-false, ne_eqb found 0 miss, went Call.WriteLock (RwReaderPlace.Write patience) None done comes)

-- who was granted the lock has it
pub granted_has : (call : Call ℕ) (kind : HoldKind) (done : List (Slot ℕ)) (q : Parties ℕ) → HasEnded rw_reader_model call Answer.Success (Some kind) done q → has_hold kind q ≡ true
granted_has call kind done q ended = holding_is rw_reader_model kind done q ended.rests

-- `Unlock`

pub may_leave_reading : (p : Parties ℕ) → has_hold HoldKind.Read p ≡ true → MayStep rw_reader_model (Word.State ∷ []) (Continuing Call.Unlock) 0 (λ w. Intent.Subtract w 1) p
may_leave_reading p has = grind (arith, nat_tests, eqb-true, eqb-false, unlock_begins HoldKind.Read p.resting p (holding_told rw_reader_model HoldKind.Read p has))

pub may_leave_writing : (p : Parties ℕ) → has_hold HoldKind.Write p ≡ true → MayStep rw_reader_model (Word.State ∷ []) (Continuing Call.Unlock) 0 (λ w. Intent.Store w 0) p
may_leave_writing p has = grind (arith, nat_tests, eqb-true, eqb-false, unlock_begins HoldKind.Write p.resting p (holding_told rw_reader_model HoldKind.Write p has))

pub leaves_reading : (found : ℕ) (p q : Parties ℕ) → Went rw_reader_model (Continuing Call.Unlock) p found q → Unlocks HoldKind.Read p q
leaves_reading found p q went = λ done holding. went Call.Unlock RwReaderPlace.Release (Some HoldKind.Read) done (unlock_begins HoldKind.Read done p holding)

pub leaves_writing : (found : ℕ) (p q : Parties ℕ) → Went rw_reader_model (Continuing Call.Unlock) p found q → Unlocks HoldKind.Write p q
leaves_writing found p q went = λ done holding. went Call.Unlock RwReaderPlace.Release (Some HoldKind.Write) done (unlock_begins HoldKind.Write done p holding)

pub is_to_wake : (kind : HoldKind) (i : ℕ) (p q : Parties ℕ) → i ≡ 0 → has_hold kind p ≡ true → Unlocks kind p q → IsToWake rw_reader_model (Word.State ∷ []) (λ (_ : RwReaderPlace). Word.State) i q
is_to_wake kind i p q is has unlocked = grind (arith, nat_tests, eqb-true, eqb-false, unlocked p.resting (holding_told rw_reader_model kind p has))

pub unlock_is_over : (kind : HoldKind) (p q : Parties ℕ) → has_hold kind p ≡ true → Unlocks kind p q → IsOverAside rw_reader_model q
unlock_is_over kind p q has unlocked = record {
  call = Call.Unlock;
  place = RwReaderPlace.Wake;
  hold = None;
  done = p.resting;
  at = unlocked p.resting (holding_told rw_reader_model kind p has);
  aside = tt;
  answer = Answer.Done;
  ends = refl;
}
