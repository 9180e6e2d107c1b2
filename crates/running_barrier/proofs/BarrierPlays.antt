-- The steps of a barrier are those of its table.
use Rattle.running_barrier.proofs.Names.{nat_lt, Word, Call, Answer, Then, Intent, BarrierPlace, epoch_of, count_of, with_arrival, barrier_intent, barrier_model, Slot, Parties, all_of, Coming, Going, Beginning, Answered, ComesBy, IsAt, Leads, HasEnded, MayStep, Went, ◌≡◌, ◌≢◌, ℕ, ◌+◌, ◌<◌, ◌≤◌, ◌==◌, Bool, false, cond, refl, List, [], ◌∷◌, None, arith, ne_eqb, nat_tests, WaitAction, After, within, IsOverAside, spun, StandsToWait, IsToWake, IsNextWord, HasLooked, HasJoined, ComesToStay, Looks, HasLeft, eqb-true, eqb-false}

-- the word after an arrival

module _ (n : ℕ) where
  abbrev Comes : Coming ℕ → BarrierPlace → List (Slot ℕ) → Parties ℕ → Type 0
  Comes way place done p = ComesBy (barrier_model n) way Call.Wait place None done p

  -- how a call begins, and comes to its further looks

  wait_begins : (p : Parties ℕ) → Comes (Beginning Call.Wait) (BarrierPlace.Look n) (all_of p) p
  wait_begins p = (refl, record { may = record { begins = refl; free = refl; values = tt }; new = refl; others = refl })

  may_load : (way : Coming ℕ) (place : BarrierPlace) (done : List (Slot ℕ)) (p : Parties ℕ) → ◌≡◌ {A = Intent ℕ} (barrier_intent Word.State place) (Intent.Load Word.State) → Comes way place done p →
      MayStep (barrier_model n) (Word.State ∷ []) way 0 (λ w. Intent.Load w) p
  may_load way place done p intends comes = record { call = Call.Wait; place = place; hold = None; done = done; comes = comes; name = Word.State; named = refl; intends = intends; on = refl }

  pub may_look : (p : Parties ℕ) → MayStep (barrier_model n) (Word.State ∷ []) (Beginning Call.Wait) 0 (λ w. Intent.Load w) p
  may_look p = may_load _ (BarrierPlace.Look n) (all_of p) p refl (wait_begins p)

  pub looked : (found : ℕ) (p q : Parties ℕ) → Went (barrier_model n) (Beginning Call.Wait) p found q → HasLooked n found (all_of p) q
  looked found p q went = went Call.Wait (BarrierPlace.Look n) None (all_of p) (wait_begins p)

  -- a look that finds room comes to an arrival, and one that finds none is refused

  refused_so : (seen : ℕ) (b : Bool) (done : List (Slot ℕ)) (p : Parties ℕ) → n ≤ count_of seen → nat_lt (count_of seen) n ≡ b →
      Leads (barrier_model n) Call.Wait (cond b (After.At (BarrierPlace.Arrive n seen (with_arrival n seen))) (After.Ends Answer.Full)) None done p →
      HasEnded (barrier_model n) Call.Wait Answer.Full None done p
  refused_so seen b done p h1 h2 h3 = grind (arith, nat_tests, eqb-true, eqb-false)

  pub refused : (seen : ℕ) (done : List (Slot ℕ)) (p : Parties ℕ) → n ≤ count_of seen → HasLooked n seen done p → HasEnded (barrier_model n) Call.Wait Answer.Full None done p
  refused seen done p full at = refused_so seen (nat_lt (count_of seen) n) done p full refl at

  -- the exchange that the table has there

  pub may_arrive : (seen to : ℕ) (done : List (Slot ℕ)) (p : Parties ℕ) → IsNextWord n seen to → HasLooked n seen done p →
      MayStep (barrier_model n) (Word.State ∷ []) Going 0 (λ w. Intent.Exchange w seen to) p
  may_arrive seen to done p h1 h2 = grind (arith, nat_tests, eqb-true, eqb-false)

  pub has_joined : (seen found : ℕ) (done : List (Slot ℕ)) (p q : Parties ℕ) → count_of seen < n → found ≡ seen → HasLooked n seen done p → Went (barrier_model n) Going p found q → HasJoined n seen done q
  has_joined seen found done p q h1 h2 h3 h4 = grind (arith, nat_tests, eqb-true, eqb-false)

  pub looked_again : (seen found : ℕ) (done : List (Slot ℕ)) (p q : Parties ℕ) → count_of seen < n → found ≢ seen → HasLooked n seen done p → Went (barrier_model n) Going p found q → HasLooked n found done q
  looked_again seen found done p q h1 h2 h3 h4 = grind (arith, nat_tests, eqb-true, eqb-false)

  -- who fills a round wakes all, and any other comes to stay

  pub fills : (from : ℕ) (done : List (Slot ℕ)) (p : Parties ℕ) → count_of from + 1 ≡ n → HasJoined n from done p → IsAt (barrier_model n) Call.Wait BarrierPlace.Wake Then.GoesOn None done p
  fills from done p h1 h2 = grind (arith, nat_tests, eqb-true, eqb-false)

  pub stays : (from epoch : ℕ) (done : List (Slot ℕ)) (p : Parties ℕ) → epoch ≡ epoch_of from → count_of from + 1 ≢ n → HasJoined n from done p → ComesToStay n epoch done p
  stays from epoch done p h1 h2 h3 = grind (arith, nat_tests, eqb-true, eqb-false)

  pub is_to_wake : (i : ℕ) (done : List (Slot ℕ)) (p : Parties ℕ) → i ≡ 0 → IsAt (barrier_model n) Call.Wait BarrierPlace.Wake Then.GoesOn None done p →
      IsToWake (barrier_model n) (Word.State ∷ []) (λ (_ : BarrierPlace). Word.State) i p
  is_to_wake i done p h1 h2 = grind (arith, nat_tests, eqb-true, eqb-false)

  pub is_over_woken : (done : List (Slot ℕ)) (p : Parties ℕ) → IsAt (barrier_model n) Call.Wait BarrierPlace.Wake Then.GoesOn None done p → IsOverAside (barrier_model n) p
  is_over_woken done p at = record { call = Call.Wait; place = BarrierPlace.Wake; hold = None; done = done; at = at; aside = tt; answer = Answer.Ok; ends = refl }

  -- the looks of a call that has arrived

  pub may_stay : (epoch spins : ℕ) (done : List (Slot ℕ)) (p : Parties ℕ) → IsAt (barrier_model n) Call.Wait (BarrierPlace.Stay epoch spins) Then.GoesOn None done p →
      MayStep (barrier_model n) (Word.State ∷ []) Going 0 (λ w. Intent.Load w) p
  may_stay epoch spins done p at = may_load Going (BarrierPlace.Stay epoch spins) done p refl at

  pub looks : (epoch spins found : ℕ) (done : List (Slot ℕ)) (p q : Parties ℕ) → IsAt (barrier_model n) Call.Wait (BarrierPlace.Stay epoch spins) Then.GoesOn None done p →
      Went (barrier_model n) Going p found q → Looks n epoch spins found done q
  looks epoch spins found done p q at went = went Call.Wait (BarrierPlace.Stay epoch spins) None done at

  -- what follows from a look: at another epoch it leaves, and at the same it spins or stands

  abbrev Leads_on : ℕ → ℕ → ℕ → Bool → Bool → List (Slot ℕ) → Parties ℕ → Type 0
  Leads_on epoch spins seen same some done p =
      Leads (barrier_model n) Call.Wait (cond same (within (λ q. BarrierPlace.Stay epoch q.spins) (cond some (After.At (spun (spins + 1))) (After.Waits (spun spins) seen))) (After.Ends Answer.Ok)) None done p

  leaves_so : (epoch spins seen : ℕ) (same some : Bool) (done : List (Slot ℕ)) (p : Parties ℕ) → (epoch_of seen == epoch) ≡ same → same ≡ false → Leads_on epoch spins seen same some done p → HasLeft n done p
  leaves_so epoch spins seen same some done p h1 h2 h3 = grind (arith, nat_tests, eqb-true, eqb-false)

  pub leaves : (epoch spins seen : ℕ) (done : List (Slot ℕ)) (p : Parties ℕ) → epoch_of seen ≢ epoch → Looks n epoch spins seen done p → HasLeft n done p
  leaves epoch spins seen done p other at = leaves_so epoch spins seen (epoch_of seen == epoch) (nat_lt spins 10000) done p refl (ne_eqb (epoch_of seen) epoch other) at

  -- at another epoch it has left, however often it has spun

  pub looks_no_more : (epoch spins more seen : ℕ) (done : List (Slot ℕ)) (p : Parties ℕ) → epoch_of seen ≢ epoch → Looks n epoch spins seen done p → Looks n epoch more seen done p
  looks_no_more epoch spins more seen done p h1 h2 = grind (arith, nat_tests, eqb-true, eqb-false)

  pub spins_on : (epoch spins seen : ℕ) (done : List (Slot ℕ)) (p : Parties ℕ) → epoch_of seen ≡ epoch → spins < 10000 → Looks n epoch spins seen done p →
      IsAt (barrier_model n) Call.Wait (BarrierPlace.Stay epoch (spins + 1)) Then.GoesOn None done p
  spins_on epoch spins seen done p h1 h2 h3 = grind (arith, nat_tests, eqb-true, eqb-false)

  stands : (epoch seen : ℕ) (done : List (Slot ℕ)) (p : Parties ℕ) → epoch_of seen ≡ epoch → Looks n epoch 10000 seen done p →
      IsAt (barrier_model n) Call.Wait (BarrierPlace.Stay epoch 10000) (Then.Waits seen) None done p
  stands epoch seen done p h1 h2 = grind (arith, nat_tests, eqb-true, eqb-false)

  pub stands_to_wait : (i epoch seen : ℕ) (done : List (Slot ℕ)) (p : Parties ℕ) → i ≡ 0 → epoch_of seen ≡ epoch → Looks n epoch 10000 seen done p →
      StandsToWait (barrier_model n) (Word.State ∷ []) (λ (_ : BarrierPlace). Word.State) i seen p
  stands_to_wait i epoch seen done p h1 h2 h3 = grind (arith, nat_tests, eqb-true, eqb-false)

  -- after its closure it looks again

  goes_on : (epoch seen : ℕ) (done : List (Slot ℕ)) (p : Parties ℕ) → epoch_of seen ≡ epoch → Looks n epoch 10000 seen done p → Comes (Answered WaitAction.Continue) (BarrierPlace.Stay epoch 10000) done p
  goes_on epoch seen done p same at = record { stood = BarrierPlace.Stay epoch 10000; told = seen; at = stands epoch seen done p same at; answered = refl }

  pub may_look_on : (epoch seen : ℕ) (done : List (Slot ℕ)) (p : Parties ℕ) → epoch_of seen ≡ epoch → Looks n epoch 10000 seen done p →
      MayStep (barrier_model n) (Word.State ∷ []) (Answered WaitAction.Continue) 0 (λ w. Intent.Load w) p
  may_look_on epoch seen done p same at = may_load _ (BarrierPlace.Stay epoch 10000) done p refl (goes_on epoch seen done p same at)

  pub looks_on : (epoch seen found : ℕ) (done : List (Slot ℕ)) (p q : Parties ℕ) → epoch_of seen ≡ epoch → Looks n epoch 10000 seen done p → Went (barrier_model n) (Answered WaitAction.Continue) p found q →
      Looks n epoch 10000 found done q
  looks_on epoch seen found done p q same at went = went Call.Wait (BarrierPlace.Stay epoch 10000) None done (goes_on epoch seen done p same at)
