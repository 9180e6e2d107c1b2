-- What a call of a closure tells that acts on a value, and what look after look tells.
use Rattle.running_guarded.proofs.Names.{Option, MutBor, Bor, Mut, Called, WaitAction, Bool, true, false, Some, None, ◌≡◌, ◌≤◌, ℕ, ◌+◌, suc, List, [], ◌∷◌, refl, sym, ap, subst, ◌∙◌, arith, Answer, Often, HasAnswered, HasWaitedOften, HasLockedOften, GuardedPass, PlaysBoth, grants_of, view}
use Rattle.std.proofs.Common.{zero, inl, inr, ◌⊎◌}
use Rattle.std.proofs.lemmas.Bool.{true≢false}
use Rattle.std.specs.List.{FoldsTo}
use Rattle.std.specs.Fn.{Shared, FnReturns}
use Rattle.running_passes.specs.Answers.{IfInterrupted, MayAnswerAbort}
use Rattle.running_passes.specs.declared.wait.WaitResult.{WaitResult}
use Rattle.running_passes.specs.declared.wait.WaitResult.TheVariants.{Success, Interrupted}
use Rattle.running_semaphore.specs.SemaphoreShown.{IsEmpty, SemPass, AskedForPermit}
use Rattle.running_condvar.specs.CondShown.{HasSlept, HasWaited, permits_in, HasStayed as HasWaitedAtMost}
use Rattle.running_condvar.specs.Often.{WaitsForPermit}
use Rattle.running_condvar.specs.declared.waits.Waits.{Waits}
use Rattle.running_passes.specs.declared.view.View.{View}
use Rattle.std.specs.Prelude.{is_some}
use Rattle.running_condvar.specs.declared.CondPass.{CondPass}
use Rattle.running_condvar.specs.declared.ConditionVariable.{ConditionVariable}
use Rattle.running_model.specs.Asked.{AskedOnce, WokeOnce}
use Rattle.running_model.proofs.Questions.{aborted_by}
use Rattle.running_guarded.specs.Acting.{HasAnsweredAfter, Looker, LooksOnce, LooksUntil, permits_of, given_by, slept_by, answer_of}
use Rattle.running_guarded.specs.declared.when.Looked.{Looked}

-- locked once more
locks_again : (times : ℕ) (p q r : GuardedPass) → HasLockedOften times p q → grants_of r ≡ grants_of q + 1 → PlaysBoth (view q) (view r) → HasLockedOften (suc times) p r
locks_again times p q r often granted both = record { granted = omega (arith, often.granted, granted); played = (view q, often.played, both) }

module _ {F T X : Type 0} (g : Mut F (MutBor T × Unit {0}) (Option X × (MutBor T × Unit {0}))) where
  pub answered : (f f' : F) (y y' : MutBor T) (answer : Option X) → Called g f (y, tt) (answer, (y', tt)) f' → HasAnswered g answer f f'
  answered f f' y y' answer called = record { found = y.now; left = y'.now; says = record { shown = y; shows = refl; left = y'; called = called; leaves = refl } }

module _ {W Y : Type 0} (w : Mut W (Bor Y × (Bor ℕ × Unit {0})) WaitAction) (shown : Y) where
  -- a wait changes nothing else in the pass of a condition variable
  pub stays_by : (wait after : W) (initial : ℕ) (took : Bool) (p q : CondPass) → HasWaited p q → HasSlept w shown wait after initial took (permits_in p) (permits_in q) → HasWaitedAtMost p q
  stays_by wait after initial true p q h1 h2 = record { waits = h1.counted.0; permits = h2.came.taken.same; part_of_waits = ap (λ (v : View Waits). v.part) h1.counted.1; part_of_permits = h2.came.taken.part }
  stays_by wait after initial false p q h1 h2 = record { waits = h1.counted.0; permits = h2.came.0.stayed.same; part_of_waits = ap (λ (v : View Waits). v.part) h1.counted.1; part_of_permits = h2.came.0.stayed.part }

  -- a closure whose calls leave it as it is, is as it was once it was asked
  module _ (wait : W) (keeps : (f : W) (a : Bor Y × (Bor ℕ × Unit {0})) (r : WaitAction) (next : W) → f ≡ wait → Called w f a r next → next ≡ wait) where
    folds : (xs : List (ℕ × WaitAction)) (f q : W) → FoldsTo {P = W} {A = ℕ × WaitAction} (λ p x j. AskedOnce w shown p x.0 x.1 j) f xs q → f ≡ wait → q ≡ wait
    folds [] f q led good = sym led ∙ good
    folds (x ∷ xs) f q led good = folds xs led.0 q led.2 (keeps _ _ _ _ good led.1.called)

module _ {F T X K W V Y A S : Type 0} (g : Mut F (MutBor T × Unit {0}) (Option X × (MutBor T × Unit {0}))) (k : Mut K (Bor V × Unit {0}) (Unit {0})) (w : Mut W (Bor Y × (Bor ℕ × Unit {0})) WaitAction)
    (IsIts : V → Type 0) (shown : Y) (c : ConditionVariable A S) where
  -- what a look came to
  pub looked_as : (s t : Looker K W F) (r r' : Looked X) → r ≡ r' → LooksOnce g k w IsIts shown c (given_by r) (slept_by r) s t → LooksOnce g k w IsIts shown c (given_by r') (slept_by r') s t
  looked_as s t r r' is h = subst (λ x. LooksOnce g k w IsIts shown c (given_by x) (slept_by x) s t) is h

  abbrev Vain : ℕ → Looker K W F → Looker K W F → Type 0
  Vain n s t = Often (LooksOnce g k w IsIts shown c None (Some true)) n s t

  often : (n : ℕ) (s t : Looker K W F) → Vain n s t → HasLockedOften n s.0 t.0 × HasWaitedOften c n s.1 t.1 × Often (HasAnswered g None) n s.4 t.4
  often zero s t e = subst (λ (q : Looker K W F). HasLockedOften 0 s.0 q.0 × HasWaitedOften c 0 s.1 q.1 × Often (HasAnswered g None) 0 s.4 q.4) (sym e) (record { granted = omega arith; played = refl }, refl, refl)
  often (suc n) s t e = let r = often n s e.0 e.1 in (locks_again n s.0 e.0.0 t.0 r.0 e.2.granted e.2.played, (permits_in e.0.1, r.1, (Answer.Success, e.2.sleeps.came.played)), (e.0.4, r.2, e.2.called))

  abbrev Last : Option X → Looker K W F → Looker K W F → Type 0
  Last answer b t = ((is_some answer ≡ true) × LooksOnce g k w IsIts shown c answer None b t) ⊎ ((v : Looker K W F) × LooksOnce g k w IsIts shown c None (Some false) b v × LooksOnce g k w IsIts shown c answer None v t)

  -- how often it locked, waited and called the closure
  counted : (answer : Option X) (n : ℕ) (s b t : Looker K W F) → Vain n s b → Last answer b t → (waits : ℕ) × HasLockedOften (suc waits) s.0 t.0 × HasWaitedOften c waits s.1 t.1 × HasAnsweredAfter g waits answer s.4
  counted answer n s b t vain (inl l) = let r = often n s b vain in (
    n,
    locks_again n s.0 b.0 t.0 r.0 l.1.granted l.1.played,
    subst (λ p. Often (WaitsForPermit (permits_of c)) n (permits_in s.1) p) (sym l.1.sleeps.0) r.1,
    (b.4, t.4, r.2, l.1.called),
  )
  counted answer n s b t vain (inr l) = let r = often n s b vain in (
    suc n,
    locks_again (suc n) s.0 l.0.0 t.0 (locks_again n s.0 b.0 l.0.0 r.0 l.1.granted l.1.played) l.2.granted l.2.played,
    subst (λ p. Often (WaitsForPermit (permits_of c)) (suc n) (permits_in s.1) p) (sym l.2.sleeps.0) (permits_in b.1, r.1, (Answer.Interrupted, l.1.sleeps.came.1)),
    (l.0.4, t.4, (b.4, r.2, l.1.called), l.2.called),
  )

  pub looks_often : (answer : Option X) (s t : Looker K W F) → LooksUntil g k w IsIts shown c answer s t → (waits : ℕ) × HasLockedOften (suc waits) s.0 t.0 × HasWaitedOften c waits s.1 t.1 × HasAnsweredAfter g waits answer s.4
  looks_often answer s t u = counted answer u.waits s u.between t u.before u.last

  again : (n : ℕ) (s b t : Looker K W F) → Vain n s b → Last None b t → grants_of s.0 + 2 ≤ grants_of t.0
  again n s b t vain (inl l) = absurd (true≢false (sym l.0))
  again n s b t vain (inr l) = omega (arith, (often n s b vain).0.granted, l.1.granted, l.2.granted)

  pub looks_again : (r : WaitResult X) (s t : Looker K W F) → LooksUntil g k w IsIts shown c (answer_of r) s t → IfInterrupted r (grants_of s.0 + 2 ≤ grants_of t.0)
  looks_again (Success x) s t u = tt
  looks_again Interrupted s t u = again u.waits s u.between t u.before u.last

  -- it woke from the first look on
  first : (n : ℕ) (s b : Looker K W F) → Vain n s b → ((v : K) × WokeOnce k IsIts s.2 v) ⊎ (b ≡ s)
  first zero s b e = inr e
  first (suc n) s b e = first_of (first n s e.0 e.1)
    where
      first_of : (((v : K) × WokeOnce k IsIts s.2 v) ⊎ (e.0 ≡ s)) → ((v : K) × WokeOnce k IsIts s.2 v) ⊎ (b ≡ s)
      first_of (inl x) = inl x
      first_of (inr same) = inl (b.2, subst (λ (q : Looker K W F). WokeOnce k IsIts q.2 b.2) same e.2.woke)

  wakes_by : (answer : Option X) (s b t : Looker K W F) → (((v : K) × WokeOnce k IsIts s.2 v) ⊎ (b ≡ s)) → Last answer b t → (v : K) × WokeOnce k IsIts s.2 v
  wakes_by answer s b t (inl x) l = x
  wakes_by answer s b t (inr same) (inl l) = (t.2, subst (λ (q : Looker K W F). WokeOnce k IsIts q.2 t.2) same l.1.woke)
  wakes_by answer s b t (inr same) (inr l) = (l.0.2, subst (λ (q : Looker K W F). WokeOnce k IsIts q.2 l.0.2) same l.1.woke)

  pub looks_wake : (answer : Option X) (s t : Looker K W F) → LooksUntil g k w IsIts shown c answer s t → (v : K) × WokeOnce k IsIts s.2 v
  looks_wake answer s t u = wakes_by answer s u.between t (first u.waits s u.between u.before) u.last

  module _ (h : Shared W (Bor Y × (Bor ℕ × Unit {0})) WaitAction) (wait : W) (leads : (f : W) (a : Bor Y × (Bor ℕ × Unit {0})) (r : WaitAction) (next : W) → f ≡ wait → Called w f a r next → (next ≡ wait) × FnReturns h wait a r) where
    asked : (f after : W) (took : Bool) (p q : SemPass) → AskedForPermit w shown f after took p q → f ≡ wait → after ≡ wait
    asked f after took p q (inl soon) good = sym soon.1 ∙ good
    asked f after took p q (inr r) good = folds w shown wait (λ f a r next good called. (leads f a r next good called).0) r.4.asked f after r.4.led good

    same : (n : ℕ) (s b : Looker K W F) → Vain n s b → s.3 ≡ wait → b.3 ≡ wait
    same zero s b e good = subst (λ (q : Looker K W F). q.3 ≡ wait) (sym e) good
    same (suc n) s b e good = asked e.0.3 b.3 true (permits_in e.0.1) (permits_in b.1) e.2.sleeps.asked (same n s e.0 e.1 good)

    aborts : (n : ℕ) (s b t : Looker K W F) → Vain n s b → Last None b t → s.3 ≡ wait → MayAnswerAbort h wait IsEmpty
    aborts n s b t vain (inl l) good = absurd (true≢false (sym l.0))
    aborts n s b t vain (inr l) good = aborted_by w shown IsEmpty h wait (λ f. f ≡ wait) leads 10001 b.3 l.0.3 false _ _ _ l.1.sleeps.asked (same n s b vain good) refl

    pub looks_abort : (r : WaitResult X) (s t : Looker K W F) → LooksUntil g k w IsIts shown c (answer_of r) s t → s.3 ≡ wait → IfInterrupted r (MayAnswerAbort h wait IsEmpty)
    looks_abort (Success x) s t u good = tt
    looks_abort Interrupted s t u good = aborts u.waits s u.between t u.before u.last good
