-- A semaphore keeps its law at every prefix of every run.
use Rattle.model_semaphore.proofs.Names.{◌≡◌, ℕ, ◌+◌, ◌≤◌, ◌<◌, ◌^◌, refl, true, false, List, [], ◌∷◌, Option, Some, None, inl, arith, eqb-true, eqb-false, nat_tests, Descends, ends_within, no_holds, exclusive_unheld, by_move, tells_memory, IsKept, at_place, waits_first, waits_as, spins_no_more, IfSome, MatchBool, MatchOption, is_some, WaitAction, Word, Call, Act, Event, place_after, same_word, PendingCall, call_of, hold_of, word_in, word_after, event, Move, step_at, is_step, sight_of, keeps_asking, last_of, WhereAsked, is_apart, Lacks, is_refusal, SemaphorePlace, semaphore_table, semaphore_begins, semaphore_intent, semaphore_after, semaphore_answered, permits_given, permits_taken, is_take, number_answered, semaphore_gives, semaphore_value, SemaphoreCause, wait_spins, permits_seen, SemaphoreStep, KeepsSemaphore, semaphore_most, semaphore_waiting}
use Rattle.model_events.specs.Exports.{Arithmetic, IsPast}
use Rattle.model_events.specs.declared.{hold.HoldKind.HoldKind}
use Rattle.model_semaphore.proofs.Permits.{Effect, Tallies, tallies_first, tallies_after, lowered}
use Rattle.model_semaphore.proofs.WaitSteps.{AtWait}

-- What is kept of a call at its place.

abbrev pub AtSemaphore : {T : Type 0} → SemaphorePlace → PendingCall T → Option HoldKind → Type 0
AtSemaphore SemaphorePlace.Value c hold = (c.call ≡ Call.Value) × (last_of is_step c.own ≡ None)
AtSemaphore (SemaphorePlace.Post n) c hold = (c.call ≡ Call.Post n) × (last_of is_step c.own ≡ None)
AtSemaphore SemaphorePlace.Wake c hold = (n : ℕ) × (c.call ≡ Call.Post n) × (is_some (last_of is_step c.own) ≡ true)
AtSemaphore SemaphorePlace.TryLook c hold = (c.call ≡ Call.TryWait) × (permits_seen c.own ≡ 0)
AtSemaphore (SemaphorePlace.TryTake seen to) c hold = (c.call ≡ Call.TryWait) × (seen ≡ to + 1) × (permits_seen c.own ≡ seen)
AtSemaphore (SemaphorePlace.Look patience) c hold = (c.call ≡ Call.Wait) × AtWait (SemaphorePlace.Look patience) c.own × (permits_seen c.own ≡ 0)
AtSemaphore (SemaphorePlace.Take seen to patience) c hold = (c.call ≡ Call.Wait) × AtWait (SemaphorePlace.Take seen to patience) c.own × (permits_seen c.own ≡ seen)

-- Where an answer leads.

pub semaphore_kept : {T : Type 0} (initial : ℕ) → IsKept {T = T} (semaphore_table initial) AtSemaphore
semaphore_kept initial = grind (arith, nat_tests, eqb-true, eqb-false)

-- No call spins more than 10000 times.
spins_bounded : {T : Type 0} (place : SemaphorePlace) (c : PendingCall T) (hold : Option HoldKind) → AtSemaphore place c hold → wait_spins c.call c.own ≤ 10000
spins_bounded place c hold h1 = grind (arith, nat_tests, eqb-true, eqb-false)

-- What a step does to the word, what it tells, and why it refuses.

-- what is so of a call where it asks its wait closure
abbrev IsAskedSo : {T : Type 0} → PendingCall T → Act T → ℕ → Type 0
IsAskedSo c act told = (wait_spins c.call c.own ≡ 10000) × (sight_of Word.State act ≡ Some told) × (keeps_asking c.own ≡ true)

pub record EventLaw {T : Type 0} (initial party : ℕ) (past : List (Event T)) (pending : Option (PendingCall T)) (w : ℕ) (m : Move T) : Type 0 where
  pub effect : Effect w (word_after Word.State m.act w) (semaphore_gives m.act pending) (is_take Word.State m.act)
  pub told : IfSome (sight_of Word.State m.act) (λ v. v ≡ w)
  pub answered : IfSome (number_answered m.outcome) (λ v. v ≡ w)
  pub cause : MatchBool (is_refusal m.outcome) (MatchOption pending ⊥ (λ c. SemaphoreCause initial c.call party (event party m.act m.outcome ∷ past))) (Unit {0})
  pub asks : WhereAsked IsAskedSo pending m.act m.outcome
  pub steps : MatchBool (is_step m.act) (MatchOption pending ⊥ (λ c. SemaphoreStep c.call c.own m.act m.outcome)) (Unit {0})

-- What follows a step, by its kind.

step_law :
    {T : Type 0} (initial party : ℕ) (past : List (Event T)) (c : PendingCall T) (place : SemaphorePlace) (hold : Option HoldKind) (memory : Word → ℕ) → call_of party past ≡ Some c → AtSemaphore place c hold →
    memory Word.State ≡ semaphore_value initial past → EventLaw initial party past (Some c) (memory Word.State) (step_at (semaphore_table initial) place hold memory)
step_law initial party past c place hold memory h1 h2 h3 = grind (arith, nat_tests, eqb-true, eqb-false)

event_law :
    {T : Type 0} (z : Arithmetic T) (initial parties : ℕ) (past : List (Event T)) (e : Event T) → IsPast z (semaphore_table initial) parties (e ∷ past) → word_in (semaphore_table initial) past Word.State ≡ semaphore_value initial past →
    EventLaw initial e.party past (call_of e.party past) (word_in (semaphore_table initial) past Word.State) (record { act = e.act; outcome = e.then })
event_law {T} z initial parties past e run law =
    by_move (semaphore_table initial) (call_of e.party past) (hold_of (semaphore_table initial) e.party past) (word_in (semaphore_table initial) past)
    (λ (k : Option (PendingCall T)) (m : Move T). EventLaw initial e.party past k (word_in (semaphore_table initial) past Word.State) m)
    run.0.0 (record { act = e.act; outcome = e.then })
    (λ call _. record { effect = inl (refl, refl, refl); told = tt; answered = tt; cause = tt; asks = tt; steps = tt })
    (λ action _. record { effect = inl (refl, refl, refl); told = tt; answered = tt; cause = tt; asks = tt; steps = tt })
    (λ choice _. record { effect = inl (refl, refl, refl); told = tt; answered = tt; cause = tt; asks = tt; steps = tt })
    (λ c place _ called stage.
    step_law initial e.party past c place (hold_of (semaphore_table initial) e.party past) (word_in (semaphore_table initial) past) called
    (at_place z (semaphore_table initial) parties AtSemaphore (semaphore_kept initial) past run.1 e.party c place called stage) law)
    run.0.1.moved

-- The law of every run: the word's value and the effect of each event go hand in hand.

pub semaphore_tallies :
    {T : Type 0} (z : Arithmetic T) (initial parties : ℕ) → initial < 2 ^ 64 → (past : List (Event T)) → IsPast z (semaphore_table initial) parties past →
    Tallies (word_in (semaphore_table initial) past Word.State) (permits_given semaphore_gives initial past) (permits_taken Word.State past)
semaphore_tallies z initial parties fits [] run = tallies_first initial fits
semaphore_tallies z initial parties fits (e ∷ past) run =
    let before = semaphore_tallies z initial parties fits past run.1 in
    tallies_after _ _ _ _ _ (is_take Word.State e.act) before (event_law z initial parties past e run before.0).effect

-- A call that waits for nobody has fewer steps left at each place.

abbrev semaphore_rest : SemaphorePlace → Option ℕ
semaphore_rest SemaphorePlace.Value = Some 1
semaphore_rest (SemaphorePlace.Post n) = Some 2
semaphore_rest SemaphorePlace.Wake = Some 1
semaphore_rest other = None

semaphore_begun : {T : Type 0} (call : Call T) (place : SemaphorePlace) (steps : ℕ) → semaphore_begins call ≡ Some place → semaphore_most call ≡ Some steps → (left : ℕ) × (semaphore_rest place ≡ Some left) × (left ≤ steps)
semaphore_begun call place steps h1 h2 = grind (arith, nat_tests, eqb-true, eqb-false)

semaphore_goes :
    (T : Type 0) (place next : SemaphorePlace) (told : Option ℕ) (left : ℕ) → semaphore_rest place ≡ Some left → place_after (semaphore_after {T = T} place told) ≡ Some next → (fewer : ℕ) × (semaphore_rest next ≡ Some fewer) × (fewer < left)
semaphore_goes T place next told left h1 h2 = grind (arith, nat_tests, eqb-true, eqb-false)

semaphore_some : (place : SemaphorePlace) (left : ℕ) → semaphore_rest place ≡ Some left → 0 < left
semaphore_some place left h1 = grind (arith, nat_tests, eqb-true, eqb-false)

semaphore_answered_rest : (place : SemaphorePlace) (action : WaitAction) → semaphore_rest (semaphore_answered place action) ≡ semaphore_rest place
semaphore_answered_rest place action = grind (arith, nat_tests, eqb-true, eqb-false)

semaphore_descends : {T : Type 0} (initial : ℕ) → Descends {T = T} (semaphore_table initial) semaphore_most semaphore_rest
semaphore_descends {T} initial = record { begins = semaphore_begun; goes = semaphore_goes T; some = semaphore_some; answered = semaphore_answered_rest; chosen = λ place choice. refl }

pub keeps_semaphore : {T : Type 0} (z : Arithmetic T) (initial parties : ℕ) (past : List (Event T)) → initial < 2 ^ 64 → IsPast z (semaphore_table initial) parties past → KeepsSemaphore initial past
keeps_semaphore z initial parties [] fits run =
    record { told = tt; exclusive = exclusive_unheld [] refl; cause = tt; law = record { unheld = refl; permits = record { at_most = omega arith; told = tt; lowers = tt }; waits = waits_first semaphore_waiting; steps = tt; within = λ party. tt } }
keeps_semaphore z initial parties (e ∷ past) fits run =
    let before = semaphore_tallies z initial parties fits past run.1 in
    let after = semaphore_tallies z initial parties fits (e ∷ past) run in
    let event = event_law z initial parties past e run before.0 in
    let unheld = no_holds (semaphore_table initial) (λ call from to. refl) (e ∷ past) in
    record {
      told = tells_memory z (semaphore_table initial) parties (e ∷ past) run;
      exclusive = exclusive_unheld _ unheld;
      cause = event.cause;
      law = record {
        unheld = unheld;
        permits = record {
          at_most = after.1;
          told = (rw before.0 at event.told, rw before.0 at event.answered);
          lowers = lowered _ _ _ _ _ (is_take Word.State e.act) before event.effect;
        };
        waits = waits_as semaphore_waiting past e event.asks (spins_no_more z (semaphore_table initial) parties AtSemaphore wait_spins (semaphore_kept initial) spins_bounded (e ∷ past) run);
        steps = event.steps;
        within = ends_within (semaphore_table initial) semaphore_most semaphore_rest (semaphore_descends initial) z parties (e ∷ past) run;
      };
    }

-- a semaphore has no other word
pub semaphore_apart : (T : Type 0) (own word : Word) → same_word own word ≡ false → (place : SemaphorePlace) → is_apart {T = T} word (semaphore_intent own place) ≡ true
semaphore_apart T own word h1 place = grind (arith, nat_tests, eqb-true, eqb-false)

pub semaphore_lacks : (T : Type 0) (initial : ℕ) (word : Word) → same_word Word.State word ≡ false → Lacks {T = T} (semaphore_table initial) word
semaphore_lacks T initial word other place hold = semaphore_apart T Word.State word other place
