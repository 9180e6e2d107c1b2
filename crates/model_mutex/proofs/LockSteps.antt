-- What each exchange of a `Lock` leads to, by the events that the call has made for the lock alone: so it serves a lock inside another call too.
use Rattle.model_mutex.proofs.Names.{◌≡◌, ◌≢◌, ℕ, ◌+◌, ◌==◌, refl, Bool, true, false, cond, List, [], ◌∷◌, Some, arith, eqb-true, eqb-false, nat_tests, nat_lt, Word, Act, Answer, Event, Then, Patience, After, within, latest_outcome, event, is_failure, failures_in, is_step, keeps_asking, spins_in, stands_at_wait, stands_in, exchanges_in, MutexPlace, mutex_after, HasTriedAll}
use Rattle.model_events.proofs.Spins.{HasSpun, begun_spun}

-- each exchange failed, and after each the call spun or stood
pub record HasTriedSo {T : Type 0} (patience : Patience) (own : List (Event T)) : Type 0 where
  pub so : HasSpun is_failure patience own
  pub tried : exchanges_in own ≡ patience.spins + stands_in own
  pub failed : failures_in own ≡ exchanges_in own
  -- it goes on by itself only where it spins
  pub goes_on : spins_in is_step own ≡ patience.spins
  -- it stands and gives up only after all its spins
  pub stands : stands_at_wait (latest_outcome own) ≡ true → patience.spins ≡ 10000
  pub gives_up : patience.keep ≡ false → patience.spins ≡ 10000

-- the events of a call that is at an exchange of its `Lock`
abbrev pub AtLock : {T : Type 0} → MutexPlace → List (Event T) → Type 0
AtLock (MutexPlace.Lock patience) own = HasTriedSo patience own
AtLock other own = ⊥

pub lock_begins : {T : Type 0} → AtLock {T = T} (MutexPlace.Lock (record { spins = 0; keep = true })) []
lock_begins = record { so = begun_spun is_failure; tried = refl; failed = refl; goes_on = refl; stands = λ waits. absurd cc; gives_up = λ gave. absurd cc }

-- How a call goes on after an exchange that found the value: it has spun once more, or stands after 10000 spins, where it still asks, and is told 1; it is granted where the word was 0,
-- and gives up where it was not, after its closure answered Abort.
abbrev pub LockLeads : {T : Type 0} → List (Event T) → ℕ → ℕ → Act T → After T MutexPlace → Type 0
LockLeads own number w act (After.At next) = AtLock next (event number act Then.GoesOn ∷ own) × (w ≢ 0)
LockLeads own number w act (After.Waits next seen) = AtLock next (event number act (Then.Waits seen) ∷ own) × (w ≢ 0) × (spins_in is_failure own ≡ 10000) × (keeps_asking own ≡ true) × (seen ≡ 1)
LockLeads own number w act (After.Ends Answer.Success) = w ≡ 0
LockLeads own number w act (After.Ends Answer.Interrupted) =
    (w ≢ 0) × (keeps_asking own ≡ false) × HasTriedAll (event number act (Then.Answers Answer.Interrupted) ∷ own)
LockLeads own number w act other = ⊥

-- by three tests: the mutex was free, the call keeps on asking, it has spins left
abbrev pub lock_after : {T : Type 0} → Patience → Bool → Bool → Bool → After T MutexPlace
lock_after patience free keep left =
    cond free (After.Ends Answer.Success)
    (within MutexPlace.Lock (cond keep (cond left (After.At (record { spins = patience.spins + 1; keep = patience.keep })) (After.Waits patience 1)) (After.Ends Answer.Interrupted)))

lock_leads_by :
    {T : Type 0} (word : Word) (patience : Patience) (own : List (Event T)) (number w : ℕ) (free keep left : Bool) → HasTriedSo patience own →
    (w == 0) ≡ free → patience.keep ≡ keep → nat_lt patience.spins 10000 ≡ left → LockLeads own number w (Act.Exchange word 0 1 w free) (lock_after patience free keep left)
lock_leads_by word patience own number w free keep left h1 h2 h3 h4 = grind (arith, nat_tests, eqb-true, eqb-false)

pub lock_leads :
    {T : Type 0} (word : Word) (patience : Patience) (own : List (Event T)) (number w : ℕ) → HasTriedSo patience own →
    LockLeads own number w (Act.Exchange word 0 1 w (w == 0)) (mutex_after (MutexPlace.Lock patience) (Some w))
lock_leads word patience own number w tried = lock_leads_by word patience own number w (w == 0) patience.keep (nat_lt patience.spins 10000) tried refl refl refl
