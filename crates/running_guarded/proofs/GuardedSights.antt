-- What becomes of what a pass knows over several exchanges.
use Rattle.running_guarded.proofs.Names.{Bool, true, false, MatchBool, Some, None, List, Bor, Shared, seen_instead, MayAnswerContinue, WaitAction, Call, HoldKind, MutexPlace, mutex_model, Slot, all_of, Coming, Going, Beginning, Answered, ComesBy, MayStep, spun, IsGranted, IsRefused, IsStanding, IsLocked, Locks, Enters, ◌≡◌, ◌≤◌, ◌<◌, ℕ, ◌+◌, [], ◌∷◌, refl, ap, subst, arith, may_lock, lock_begins, lock_goes, Word, Intent, Patience, spins_on, stands, tries_on, MutexView, SeesLocked, Tries, SeesLockedOften, StaysLocked, GivesUp, nat_tests, eqb-true, eqb-false}
use Rattle.model_events.specs.Rows.{answered}
use Rattle.running_spin_lock.proofs.ValueSights as values

pub sees_once : (v w : MutexView) → SeesLocked v w → SeesLockedOften 1 v w
sees_once v w is = record { only = values.sees_now (λ s. seen_instead s 0 1) (λ s. refl) v w is; count = ap (λ u. u.sights.count) is; last = ap (λ u. u.sights.last) is }

pub sees_on : (n m : ℕ) (u v w : MutexView) → SeesLockedOften n u v → SeesLockedOften m v w → SeesLockedOften (n + m) u w
sees_on n m u v w h1 h2 = grind (arith, nat_tests, eqb-true, eqb-false)

pub enters_now : (v w : MutexView) → Locks v w → Enters v w
enters_now v w locks = values.enters_now v w locks

pub enters_later : (n : ℕ) (u v w : MutexView) → SeesLockedOften n u v → Enters v w → Enters u w
enters_later n u v w seen enters = values.enters_later u v w seen.only enters

-- a call that gave up by its own tries, and as many that came after a question each
pub gave_up : {F W : Type 0} (h : Shared F (Bor W × (Bor ℕ × Unit {0})) WaitAction) (wait : F) (b : Bool) (u v w : MutexView) (asked : ℕ) → SeesLockedOften 10001 u v → MatchBool b (Enters v w) (StaysLocked v w)
    → (b ≡ false → (w.sights.count ≡ v.sights.count + asked) × (1 ≤ asked) × (2 ≤ asked → MayAnswerContinue h wait IsLocked)) → MatchBool b (Enters u w) (GivesUp 10001 h wait u w)
gave_up h wait true u v w n seen enters so = enters_later 10001 u v w seen enters
gave_up h wait false u v w n seen stays so = let is = so refl in
    record { more = n; refused = sees_on 10001 n u v w seen (subst (λ k. SeesLockedOften k v w) (omega (arith, stays.seen.count, is.0)) stays.seen); some = is.1; again = is.2 }

-- The exchanges of `lock`: that they may be made, and where they lead.

abbrev Granted : List (Slot ℕ) → MutexView → Type 0
Granted done v = IsGranted mutex_model Call.Lock MutexPlace.Lock (Some HoldKind.Write) done v.tally.parties

abbrev Refused : Patience → List (Slot ℕ) → MutexView → Type 0
Refused patience done v = IsRefused mutex_model Call.Lock MutexPlace.Lock patience 1 done v.tally.parties

abbrev Stands : List (Slot ℕ) → MutexView → Type 0
Stands done v = IsStanding mutex_model Call.Lock MutexPlace.Lock 1 done v.tally.parties

abbrev MayExchange : Coming ℕ → MutexView → Type 0
MayExchange coming v = MayStep mutex_model (Word.State ∷ []) coming 0 (λ w. Intent.Exchange w 0 1) v.tally.parties

led : (free : Bool) (coming : Coming ℕ) (patience : Patience) (done : List (Slot ℕ)) (v w : MutexView) → Tries coming free v w
    → ComesBy mutex_model coming Call.Lock (MutexPlace.Lock patience) None done v.tally.parties → MatchBool free (Granted done w) (Refused patience done w)
led free coming patience done v w t comes = lock_goes free coming t.0 patience done v.tally.parties w.tally.parties t.1 t.2 comes

-- the first

pub may_begin : (v : MutexView) → MayExchange (Beginning Call.Lock) v
may_begin v = may_lock (Beginning Call.Lock) v.tally.parties 1 refl (record { patience = spun 0; done = all_of v.tally.parties; comes = lock_begins v.tally.parties })

pub led_first : (free : Bool) (v w : MutexView) → Tries (Beginning Call.Lock) free v w → MatchBool free (Granted (all_of v.tally.parties) w) (Refused (spun 0) (all_of v.tally.parties) w)
led_first free v w t = led free (Beginning Call.Lock) (spun 0) (all_of v.tally.parties) v w t (lock_begins v.tally.parties)

-- those by itself

pub may_spin : (n : ℕ) (done : List (Slot ℕ)) (v : MutexView) → n < 10000 → Refused (spun n) done v → MayExchange Going v
may_spin n done v below at = may_lock Going v.tally.parties 1 refl (record { patience = spun (n + 1); done = done; comes = spins_on mutex_model Call.Lock MutexPlace.Lock n 1 done v.tally.parties below at })

pub led_spinning : (free : Bool) (n : ℕ) (done : List (Slot ℕ)) (v w : MutexView) → n < 10000 → Tries Going free v w → Refused (spun n) done v → MatchBool free (Granted done w) (Refused (spun (n + 1)) done w)
led_spinning free n done v w below t at = led free Going (spun (n + 1)) done v w t (spins_on mutex_model Call.Lock MutexPlace.Lock n 1 done v.tally.parties below at)

pub stands_at_last : (n : ℕ) (done : List (Slot ℕ)) (v : MutexView) → n ≡ 10000 → Refused (spun n) done v → Stands done v
stands_at_last n done v all at = stands mutex_model Call.Lock MutexPlace.Lock n 1 done v.tally.parties all at

-- those after an answer of the wait closure

pub may_try : (action : WaitAction) (done : List (Slot ℕ)) (v : MutexView) → Stands done v → MayExchange (Answered action) v
may_try action done v at = may_lock (Answered action) v.tally.parties 1 refl (record { patience = answered (spun 10000) action; done = done; comes = tries_on mutex_model Call.Lock MutexPlace.Lock (λ p a. refl) action 1 done v.tally.parties at })

pub led_answered : (free : Bool) (action : WaitAction) (done : List (Slot ℕ)) (v w : MutexView) → Tries (Answered action) free v w → Stands done v → MatchBool free (Granted done w) (Refused (answered (spun 10000) action) done w)
led_answered free action done v w t at = led free (Answered action) (answered (spun 10000) action) done v w t (tries_on mutex_model Call.Lock MutexPlace.Lock (λ p a. refl) action 1 done v.tally.parties at)

-- how a call that asked ended, by whether its last exchange was done
pub ended : (b : Bool) (u v w : MutexView) → StaysLocked u v → MatchBool b (Locks v w) (SeesLocked v w) → MatchBool b (Enters u w) (StaysLocked u w)
ended true u v w stays locks = enters_later stays.times u v w stays.seen (enters_now v w locks)
ended false u v w stays sees = record { times = stays.times + 1; seen = sees_on stays.times 1 u v w stays.seen (sees_once v w sees) }
