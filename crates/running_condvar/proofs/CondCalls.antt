-- What a notify gives, and what a wait comes to.
use Rattle.running_condvar.proofs.Names.{Call, Answer, Bor, Mut, Shared, WaitAction, IsWhole, part_of, counts_of, gave, ◌≡◌, ℕ, ◌<◌, Bool, true, false, MatchBool, ◌⊎◌, subst, arith, HasSeen, HasDone, HasGivenUp, CondPass, MutexPass, IsLocked, HasEntered, HasUnlocked, waits_in, permits_in, HasPlayedCount, HasNotified, HasGiven, TakesOne, TakesNone, HasSlept, HasLeft, HasRegained, SemPass, AskedForPermit, HasTaken, HasPlayedPost, nat_tests, eqb-true, eqb-false}
use Rattle.running_semaphore.specs.SemaphoreShown.{HasPlayed, IsEmpty, worth_of}
use Rattle.running_model.specs.Counts.{WasRefused}
use Rattle.running_model.proofs.Questions.{aborted_by, asked_by}
use Rattle.std.specs.Fn.{Called, FnReturns}
use Rattle.std.proofs.Common.{refl}
use Rattle.std.specs.Prelude.{Some, Option}
use Rattle.running_condvar.proofs.Names.{SleepsBy, WaitsPass, View, wrote, went_in, went_out, ◌∙◌, ap, min}
use Rattle.running_condvar.specs.Cond.{one_more}
use Rattle.model_condvar.specs.Table.{permits_for}
use Rattle.model_events.specs.declared.event.Wake.{Wake}
use Rattle.running_condvar.specs.declared.waits.Waits.{Waits}

-- so many permits are for those that were seen, and none where none was
pub permits_are : (who : Wake) (waiting permits : ℕ) → (who ≡ Wake.One → permits ≡ min 1 waiting) → (who ≡ Wake.All → permits ≡ waiting) → (permits ≡ permits_for who waiting) × (waiting ≡ 0 → permits ≡ 0)
permits_are Wake.One waiting permits one all = (one refl, λ none. one refl ∙ ap (min 1) none)
permits_are Wake.All waiting permits one all = (all refl, λ none. all refl ∙ none)

-- as many were given as are for those that were seen
pub notifies : (for : ℕ → ℕ) (initial waiting permits : ℕ) (p q : CondPass) → initial ≡ 0 → permits ≡ for waiting → HasSeen waiting (waits_in p) (waits_in q) → HasPlayedCount Call.Value (Answer.Number waiting) p q →
    HasDone (gave permits) (permits_in p) (permits_in q) → HasPlayedPost initial permits (permits_in p) (permits_in q) → HasNotified for p q
notifies for initial waiting permits p q none is saw asked given posted = record {
  waiting = waiting;
  asked = asked;
  given = record { saw = saw; gave = subst (λ (n : ℕ). HasDone (gave n) (permits_in p) (permits_in q)) is given };
  posted = subst (λ (n : ℕ). HasPlayedPost 0 n (permits_in p) (permits_in q)) is (subst (λ (m : ℕ). HasPlayedPost m permits (permits_in p) (permits_in q)) none posted);
}

-- with the whole pass nobody waits, and so nothing is given
pub gives_none : (permits waiting : ℕ) (p q : CondPass) → HasSeen waiting (waits_in p) (waits_in q) → HasDone (gave permits) (permits_in p) (permits_in q) →
    (IsWhole (part_of (waits_in p)) → (counts_of (waits_in p)).ended ≡ (counts_of (waits_in p)).begun → waiting ≡ 0) → (counts_of (waits_in p)).ended ≡ (counts_of (waits_in p)).begun → (waiting ≡ 0 → permits ≡ 0) → IsWhole (part_of (waits_in p)) → HasGiven 0 0 p q
gives_none permits waiting p q h1 h2 h3 h4 h5 h6 = grind (arith, nat_tests, eqb-true, eqb-false)

-- whether a permit was taken

module _ {F X : Type 0} (g : Mut F (Bor X × (Bor ℕ × Unit {0})) WaitAction) (shown : X) (wait after : F) (initial : ℕ) (p q : SemPass) where
  -- what a wait for a permit came to
  pub slept_by : (took : Bool) → MatchBool took (HasTaken p q) (WasRefused IsEmpty 10002 p q) → MatchBool took (HasPlayed initial Call.Wait Answer.Success p q) (HasPlayed initial Call.Wait Answer.Interrupted p q) →
      (IsWhole (part_of p) → MatchBool took (0 < worth_of p) (worth_of p ≡ 0)) → AskedForPermit g shown wait after took p q → HasSlept g shown wait after initial took p q
  slept_by true taken played worth asked = record { came = record { taken = taken; played = played }; worth = worth; asked = asked }
  slept_by false taken played worth asked = record { came = (taken, played); worth = worth; asked = asked }

  -- by a closure whose calls leave it as it is
  pub told_of : (h : Shared F (Bor X × (Bor ℕ × Unit {0})) WaitAction) → ((f : F) (a : Bor X × (Bor ℕ × Unit {0})) (r : WaitAction) (next : F) → f ≡ wait → Called g f a r next → (next ≡ wait) × FnReturns h wait a r) →
      (took : Bool) → HasSlept g shown wait after initial took p q → MatchBool took (TakesOne initial p q) (TakesNone h wait initial p q)
  told_of h leads true slept = slept.came
  told_of h leads false slept = record {
    refused = slept.came.0;
    aborted = aborted_by g shown IsEmpty h wait (λ f. f ≡ wait) leads 10001 wait after false _ _ _ slept.asked refl refl;
    asked = λ whole. asked_by g shown IsEmpty h wait (λ f. f ≡ wait) leads 10001 wait after false _ p q slept.asked refl refl whole;
    played = slept.came.1;
  }

-- and once the closure is back
pub slept_so : {F X : Type 0} (g : Mut F (Bor X × (Bor ℕ × Unit {0})) WaitAction) (may : F → Type 0) (shown : X) (initial : ℕ) (took : Bool) (wait asked : F) (p q : SemPass) (now : Option F) → SleepsBy g may shown initial took (Some wait) now p q → now ≡ Some asked →
    may asked × HasSlept g shown wait asked initial took p q
slept_so g may shown initial took wait asked p q now by left =
    let was = by.was in let leaves = by.left in let first : by.wait ≡ wait = cc in let last : by.after ≡ asked = cc in
    (subst may last by.again, subst (λ f. HasSlept g shown f asked initial took p q) first (subst (λ f. HasSlept g shown by.wait f initial took p q) last by.slept))

pub sleeps_so : {F X : Type 0} (g : Mut F (Bor X × (Bor ℕ × Unit {0})) WaitAction) (may : F → Type 0) (shown : X) (initial : ℕ) (took : Bool) (b b' n n' : Option F) (p p' q q' : SemPass) → b ≡ b' → n ≡ n' → p ≡ p' → q ≡ q' → SleepsBy g may shown initial took b n p q → SleepsBy g may shown initial took b' n' p' q'
sleeps_so {F} g may shown initial took b b' n n' p p' q q' was is from to by = subst (λ (x : Option F × Option F × SemPass × SemPass). SleepsBy g may shown initial took x.0 x.1 x.2 x.3) (λ i. (was i, is i, from i, to i)) by

-- counted in, and out again
pub counted_twice : (p q r : WaitsPass) → HasDone went_in p q → HasDone went_out q r → HasDone one_more p r
counted_twice p q r i o = ((o.0.0 ∙ i.0.0, o.0.1 ∙ i.0.1), o.1 ∙ ap (λ (v : View Waits). wrote v (went_out v.tally)) i.1)

pub took_or_not : (took : Bool) (A B : Type 0) → MatchBool took A B → A ⊎ B
took_or_not took A B h1 = grind (arith, nat_tests, eqb-true, eqb-false)

pub took_some : (took : Bool) (n : ℕ) (A B : Type 0) → MatchBool took A B → MatchBool took (0 < n) (n ≡ 0) → 0 < n → A
took_some took n A B h1 h2 h3 = grind (arith, nat_tests, eqb-true, eqb-false)

pub took_none : (took : Bool) (n : ℕ) (A B : Type 0) → MatchBool took A B → MatchBool took (0 < n) (n ≡ 0) → n ≡ 0 → B
took_none true n A B is worth none = absurd (omega (arith, worth, none))
took_none false n A B is worth none = is

-- the mutex, which was unlocked, is locked again

pub regains : (p q r : MutexPass) → HasUnlocked p q → HasEntered q r → HasRegained p r
regains p q r h1 h2 = grind (arith, nat_tests, eqb-true, eqb-false)

-- or it was seen locked to the end
pub leaves : {F W : Type 0} (g : Shared F (Bor W × (Bor ℕ × Unit {0})) WaitAction) (wait : F) (p q r : MutexPass) → HasUnlocked p q → HasGivenUp g wait IsLocked q r → HasLeft g wait p r
leaves g wait p q r h1 h2 = grind (arith, nat_tests, eqb-true, eqb-false)
