-- The steps of a semaphore are those of its table.
use Rattle.running_semaphore.proofs.Names.{MatchBool, Word, Call, Answer, Then, Intent, SemaphorePlace, semaphore_intent, semaphore_model, WaitResult, IsSuccess, IsInterrupted, Slot, Parties, all_of, Coming, Going, Beginning, ComesBy, IsAt, HasCalled, MayStep, Went, spun, MayTry, IsToWake, ◌≡◌, ◌≢◌, ℕ, ◌-◌, ◌<◌, ◌^◌, Bool, refl, List, [], ◌∷◌, None, ne_eqb, Wanting, Trying, Waiting, call_of, look_of, take_of, MayWant, FoundNone, HasOne, answer_of, Posts, nat_tests, eqb-true, eqb-false, arith}
use Rattle.running_model.specs.Turns.{IsOverAside}
use Rattle.running_semaphore.specs.SemaphoreParties.{HasLooked}

module _ (initial : ℕ) where
  abbrev Comes : Coming ℕ → Wanting → List (Slot ℕ) → Parties ℕ → Type 0
  Comes way wanting done p = ComesBy (semaphore_model initial) way (call_of wanting) (look_of wanting) None done p

  -- how the calls begin

  value_begins : (p : Parties ℕ) → ComesBy (semaphore_model initial) (Beginning Call.Value) Call.Value SemaphorePlace.Value None (all_of p) p
  value_begins p = (refl, record { may = record { begins = refl; free = refl; values = tt }; new = refl; others = refl })

  post_begins : (n : ℕ) (p : Parties ℕ) → n < 2 ^ 64 → ComesBy (semaphore_model initial) (Beginning (Call.Post n)) (Call.Post n) (SemaphorePlace.Post n) None (all_of p) p
  post_begins n p fits = (refl, record { may = record { begins = refl; free = refl; values = fits }; new = refl; others = refl })

  pub try_begins : (p : Parties ℕ) → Comes (Beginning Call.TryWait) Trying (all_of p) p
  try_begins p = (refl, record { may = record { begins = refl; free = refl; values = tt }; new = refl; others = refl })

  pub wait_begins : (p : Parties ℕ) → Comes (Beginning Call.Wait) (Waiting (spun 0)) (all_of p) p
  wait_begins p = (refl, record { may = record { begins = refl; free = refl; values = tt }; new = refl; others = refl })

  pub may_wait : (p : Parties ℕ) → MayWant initial (Beginning Call.Wait) p
  may_wait p = record { wanting = Waiting (spun 0); done = all_of p; comes = wait_begins p }

  pub may_try : (way : Coming ℕ) (p : Parties ℕ) → MayTry (semaphore_model initial) Call.Wait SemaphorePlace.Look way p → MayWant initial way p
  may_try way p may = record { wanting = Waiting may.patience; done = may.done; comes = may.comes }

  -- the steps that the table has

  may_load : (way : Coming ℕ) (call : Call ℕ) (place : SemaphorePlace) (done : List (Slot ℕ)) (p : Parties ℕ) → ◌≡◌ {A = Intent ℕ} (semaphore_intent Word.State place) (Intent.Load Word.State) →
      ComesBy (semaphore_model initial) way call place None done p → MayStep (semaphore_model initial) (Word.State ∷ []) way 0 (λ w. Intent.Load w) p
  may_load way call place done p intends comes = record { call = call; place = place; hold = None; done = done; comes = comes; name = Word.State; named = refl; intends = intends; on = refl }

  pub may_tell : (p : Parties ℕ) → MayStep (semaphore_model initial) (Word.State ∷ []) (Beginning Call.Value) 0 (λ w. Intent.Load w) p
  may_tell p = may_load _ Call.Value SemaphorePlace.Value (all_of p) p refl (value_begins p)

  looks : (wanting : Wanting) → ◌≡◌ {A = Intent ℕ} (semaphore_intent Word.State (look_of wanting)) (Intent.Load Word.State)
  looks wanting = grind (arith, nat_tests, eqb-true, eqb-false)

  pub may_look : (way : Coming ℕ) (p : Parties ℕ) → MayWant initial way p → MayStep (semaphore_model initial) (Word.State ∷ []) way 0 (λ w. Intent.Load w) p
  may_look way p may = may_load way (call_of may.wanting) (look_of may.wanting) may.done p (looks may.wanting) may.comes

  pub may_add : (n : ℕ) (p : Parties ℕ) → n < 2 ^ 64 → MayStep (semaphore_model initial) (Word.State ∷ []) (Beginning (Call.Post n)) 0 (λ w. Intent.Add w n) p
  may_add n p fits = record { call = Call.Post n; place = SemaphorePlace.Post n; hold = None; done = all_of p; comes = post_begins n p fits; name = Word.State; named = refl; intends = refl; on = refl }

  -- where a look leads

  pub tells : (found : ℕ) (p q : Parties ℕ) → Went (semaphore_model initial) (Beginning Call.Value) p found q →
      HasCalled (semaphore_model initial) Call.Value (Answer.Number found) None p q
  tells found p q went = went Call.Value SemaphorePlace.Value None (all_of p) (value_begins p)

  pub looked : (way : Coming ℕ) (found : ℕ) (p q : Parties ℕ) → Went (semaphore_model initial) way p found q → (wanting : Wanting) (done : List (Slot ℕ)) → Comes way wanting done p → HasLooked initial wanting found done q
  looked way found p q h1 wanting done h2 = grind (arith, nat_tests, eqb-true, eqb-false)

  -- where it saw a permit, it comes to take one

  takes_next : (wanting : Wanting) (seen : ℕ) (done : List (Slot ℕ)) (p : Parties ℕ) → seen ≢ 0 → HasLooked initial wanting seen done p →
      IsAt (semaphore_model initial) (call_of wanting) (take_of wanting seen) Then.GoesOn None done p
  takes_next wanting seen done p some at = grind (arith, nat_tests, eqb-true, eqb-false, ne_eqb seen 0 some)

  pub found_none : (wanting : Wanting) (seen : ℕ) (done : List (Slot ℕ)) (p : Parties ℕ) → seen ≡ 0 → HasLooked initial wanting seen done p → FoundNone initial wanting done p
  found_none wanting seen done p h1 h2 = grind (arith, nat_tests, eqb-true, eqb-false)

  takes : (wanting : Wanting) (seen rest : ℕ) → rest ≡ seen - 1 → ◌≡◌ {A = Intent ℕ} (semaphore_intent Word.State (take_of wanting seen)) (Intent.Exchange Word.State seen rest)
  takes wanting seen rest h1 = grind (arith, nat_tests, eqb-true, eqb-false)

  pub may_take : (wanting : Wanting) (seen rest : ℕ) (done : List (Slot ℕ)) (p : Parties ℕ) → seen ≢ 0 → rest ≡ seen - 1 → HasLooked initial wanting seen done p →
      MayStep (semaphore_model initial) (Word.State ∷ []) Going 0 (λ w. Intent.Exchange w seen rest) p
  may_take wanting seen rest done p some less at = grind (arith, nat_tests, eqb-true, eqb-false, takes_next wanting seen done p some at, takes wanting seen rest less)

  -- where the exchange leads

  pub took_one : (wanting : Wanting) (seen found : ℕ) (done : List (Slot ℕ)) (p q : Parties ℕ) → seen ≢ 0 → found ≡ seen → HasLooked initial wanting seen done p →
      Went (semaphore_model initial) Going p found q → HasOne initial wanting done q
  took_one wanting seen found done p q some hit at went = grind (arith, nat_tests, eqb-true, eqb-false, went (call_of wanting) (take_of wanting seen) None done (takes_next wanting seen done p some at))

  pub looked_again : (wanting : Wanting) (seen found : ℕ) (done : List (Slot ℕ)) (p q : Parties ℕ) → seen ≢ 0 → found ≢ seen → HasLooked initial wanting seen done p →
      Went (semaphore_model initial) Going p found q → HasLooked initial wanting found done q
  looked_again wanting seen found done p q some miss at went = grind (arith, nat_tests, eqb-true, eqb-false, ne_eqb found seen miss, went (call_of wanting) (take_of wanting seen) None done (takes_next wanting seen done p some at))

  -- `Post`

  pub posts : (n found : ℕ) (p q : Parties ℕ) → n < 2 ^ 64 → Went (semaphore_model initial) (Beginning (Call.Post n)) p found q → Posts initial n p q
  posts n found p q fits went = went (Call.Post n) (SemaphorePlace.Post n) None (all_of p) (post_begins n p fits)

  pub is_to_wake : (i n : ℕ) (p q : Parties ℕ) → i ≡ 0 → Posts initial n p q → IsToWake (semaphore_model initial) (Word.State ∷ []) (λ (_ : SemaphorePlace). Word.State) i q
  is_to_wake i n p q h1 h2 = grind (arith, nat_tests, eqb-true, eqb-false)

  pub post_is_over : (n : ℕ) (p q : Parties ℕ) → Posts initial n p q → IsOverAside (semaphore_model initial) q
  post_is_over n p q posted = record { call = Call.Post n; place = SemaphorePlace.Wake; hold = None; done = all_of p; at = posted; aside = tt; answer = Answer.Done; ends = refl }

-- the answer of a call that comes for no hold

pub answered_so : {H : Type 0} (b : Bool) (result : WaitResult H) (Is : Answer ℕ → Type 0) → MatchBool b (IsSuccess result) (IsInterrupted result) → MatchBool b (Is Answer.Success) (Is Answer.Interrupted) → Is (answer_of result)
answered_so b result Is h1 h2 = grind (arith, nat_tests, eqb-true, eqb-false)
