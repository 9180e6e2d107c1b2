-- Each step of an atomic is its call's next.
use Rattle.model_atomic.proofs.Names.{eqb-false, eqb-true, nat_tests, ◌≡◌, ℕ, ◌+◌, ◌-◌, ◌^◌, ◌==◌, refl, sym, ◌∙◌, ap, subst, Bool, true, false, cond, is_some, List, [], ◌∷◌, Option, Some, None, arith, some_same, IsKeptFromRest, at_place_from_rest, unwrap_or, MatchOption, Word, Call, Act, Answer, Event, Then, WaitAction, HoldKind, Arithmetic, carried_out, value_told, outcome_of, place_after, PendingCall, latest_outcome, event, step_at, is_step, choose_fault, IsPast, last_of, StepsAs, seen_last, open_at, Releases, lets_readers_in, AtomicPlace, act_of, choice_of, low_told, acts_made, atomic_begins, look_at, inside, knows, atomic_table}
use Rattle.model_events.proofs.NextStep.{steps_follow}
use Rattle.model_atomic.specs.Steps.{wants, Enters, has_entered, high_told, value_found, acts_so, Accesses, StepUnder, AtomicStep}
use Rattle.model_atomic.proofs.Places.{is_store, Asks, AtAtomic, HasNone, atomic_kept}

-- What a call at each place has done and was told.

abbrev IsOutside : {T : Type 0} → List (Event T) → Type 0
IsOutside own = (has_entered own ≡ false) × (high_told own ≡ None)

abbrev IsInside : {T : Type 0} → List (Event T) → Type 0
IsInside own = (has_entered own ≡ true) × (high_told own ≡ None)

-- what it will put is its act's new value, and so will it answer
abbrev Will : {T : Type 0} → Arithmetic T → PendingCall T → ℕ → Answer T → Type 0
Will z c high answer = (new : _) × (acts_so z c.call c.own ≡ (answer, new)) × (high ≡ z.high new)

abbrev HasDone : {T : Type 0} → Arithmetic T → AtomicPlace T → PendingCall T → Type 0
HasDone z AtomicPlace.Look c = IsOutside c.own × (open_at lets_readers_in (seen_last Word.State c.own) ≡ None)
HasDone z (AtomicPlace.Enter seen to) c = IsOutside c.own × (open_at lets_readers_in (seen_last Word.State c.own) ≡ Some seen)
HasDone z (AtomicPlace.Take call) c = IsOutside c.own × (wants c.call ≡ Some HoldKind.Write)
HasDone {T} z (AtomicPlace.Low call) c = IsInside c.own × (from : ℕ) × (to : ℕ) × (found : ℕ) × (last_of is_step c.own ≡ Some (Act.Exchange Word.State from to found true))
HasDone {T} z (AtomicPlace.High call low) c = IsInside c.own × (last_of is_step c.own ≡ Some (Act.Load Word.Low low))
HasDone {T} z (AtomicPlace.Again old) c = (has_entered c.own ≡ true) × (high : ℕ) × (last_of is_step c.own ≡ Some (Act.Load Word.High high)) × (high_told c.own ≡ Some high) × (old ≡ z.of_words (low_told c.own) high)
HasDone z (AtomicPlace.PutLow low high answer) c = (has_entered c.own ≡ true) × Will z c high answer × Accesses z c.call c.own (last_of is_step c.own) (Act.Store Word.Low low) Then.GoesOn
HasDone {T} z (AtomicPlace.PutHigh high answer) c = (has_entered c.own ≡ true) × Will z c high answer × (put : ℕ) × (last_of is_step c.own ≡ Some (Act.Store Word.Low put))
HasDone z (AtomicPlace.Leave answer) c = answer ≡ (acts_so z c.call c.own).0

-- beside what is kept of every call
record At {T : Type 0} (z : Arithmetic T) (place : AtomicPlace T) (c : PendingCall T) (hold : Option HoldKind) : Type 0 where
  at : AtAtomic z place c hold
  known : is_some (wants c.call) ≡ true
  done : HasDone z place c

leads : {T : Type 0} (z : Arithmetic T) (place next : AtomicPlace T) (c : PendingCall T) → Some place ≡ Some next → HasDone z place c → HasDone z next c
leads z place next c is done = subst (λ p. HasDone z p c) (some_same place next is) done

-- Where a call begins.

begins_so : {T : Type 0} (z : Arithmetic T) (call : Call T) (place : AtomicPlace T) → atomic_begins call ≡ Some place → (is_some (wants call) ≡ true) × HasDone z place (record { call = call; own = [] })
begins_so z call place h1 = grind (arith, nat_tests, eqb-true, eqb-false)

-- Where a step leads.

look_done :
    {T : Type 0} (z : Arithmetic T) (v : ℕ) (c : PendingCall T) (next : AtomicPlace T) (b : Bool) → lets_readers_in v ≡ b → IsOutside c.own → seen_last Word.State c.own ≡ Some v →
    ◌≡◌ {A = Option (AtomicPlace T)} (Some (cond b (AtomicPlace.Enter v (v + 1)) AtomicPlace.Look)) (Some next) → HasDone z next c
look_done z v c next b h1 h2 h3 h4 = grind (arith, nat_tests, eqb-true, eqb-false)

enter_done :
    {T : Type 0} (z : Arithmetic T) (call : Call T) (own : List (Event T)) (seen to w number : ℕ) (next : AtomicPlace T) (b : Bool) → IsOutside own →
    ◌≡◌ {A = Option (AtomicPlace T)} (Some (cond b (AtomicPlace.Low Call.Load) (look_at w))) (Some next) →
    HasDone z next (record { call = call; own = event number (Act.Exchange Word.State seen to w b) Then.GoesOn ∷ own })
enter_done z call own seen to w number next b h1 h2 = grind (arith, nat_tests, eqb-true, eqb-false, leads, look_done)

inside_done :
    {T : Type 0} (z : Arithmetic T) (call : Call T) (own : List (Event T)) (from to found : ℕ) (next : AtomicPlace T) → IsInside own → last_of is_step own ≡ Some (Act.Exchange Word.State from to found true) →
    ◌≡◌ {A = Option (AtomicPlace T)} (Some (inside z call)) (Some next) → HasDone z next (record { call = call; own = own })
inside_done z call own from to found next h1 h2 h3 = grind (arith, nat_tests, eqb-true, eqb-false)

take_done :
    {T : Type 0} (z : Arithmetic T) (call : Call T) (own : List (Event T)) (w number : ℕ) (next : AtomicPlace T) (b : Bool) → IsOutside own → wants call ≡ Some HoldKind.Write →
    ◌≡◌ {A = Option (AtomicPlace T)} (Some (cond b (inside z call) (AtomicPlace.Take call))) (Some next) →
    HasDone z next (record { call = call; own = event number (Act.Exchange Word.State 0 (2 ^ 64 - 1) w b) Then.GoesOn ∷ own })
take_done z call own w number next true out writes is = inside_done z call _ 0 (2 ^ 64 - 1) w next (refl, out.1) refl is
take_done z call own w number next false out writes is = leads z (AtomicPlace.Take call) next _ is (out, writes)

-- the load of the high word, by which the old value is known

module _ {T : Type 0} (z : Arithmetic T) (own : List (Event T)) (low w number : ℕ) (next : AtomicPlace T) (in_it : IsInside own) (told : low_told own ≡ low) where
  abbrev after_look : Call T → Then T → PendingCall T
  after_look call outcome = record { call = call; own = event number (Act.Load Word.High w) outcome ∷ own }

  knew : (outcome : Then T) → value_found z (event number (Act.Load Word.High w) outcome ∷ own) ≡ z.of_words low w
  knew outcome = ap (λ h. z.of_words (low_told own) (unwrap_or h w)) in_it.1 ∙ ap (λ l. z.of_words l w) told

  so : (call : Call T) (outcome : Then T) → acts_so z call (event number (Act.Load Word.High w) outcome ∷ own) ≡ act_of z call (choice_of own) (z.of_words low w)
  so call outcome = ap (act_of z call (choice_of own)) (knew outcome)

  high_done : (call : Call T) → is_some (wants call) ≡ true → is_store call ≡ false → place_after (knows z call (z.of_words low w)) ≡ Some next → HasDone z next (after_look call (outcome_of (knows z call (z.of_words low w))))
  high_done call h1 h2 h3 = grind (arith, nat_tests, eqb-true, eqb-false, leads, so)

-- where its closure chose nothing a `FetchUpdate` reads once more, and so acts
again_done :
    {T : Type 0} (z : Arithmetic T) (old : T) (own : List (Event T)) (hold : Option HoldKind) (high w number : ℕ) (next : AtomicPlace T) → Asks z old Call.FetchUpdate own hold → high_told own ≡ Some high → old ≡ z.of_words (low_told own) high →
    ◌≡◌ {A = Option (AtomicPlace T)} (Some (AtomicPlace.Leave (Answer.ErrOld old))) (Some next) → HasDone z next (record { call = Call.FetchUpdate; own = event number (Act.Load Word.High w) Then.GoesOn ∷ own })
again_done z old own hold high w number next h1 h2 h3 h4 = grind (arith, nat_tests, eqb-true, eqb-false)

steps_so :
    {T : Type 0} (z : Arithmetic T) (v : T) (place : AtomicPlace T) (c : PendingCall T) (hold : Option HoldKind) (memory : Word → ℕ) (number : ℕ) (next : AtomicPlace T) → At z place c hold →
    place_after ((atomic_table z v).after place (value_told (carried_out ((atomic_table z v).intent place hold) memory))) ≡ Some next →
    HasDone z next (record { call = c.call; own = event number (step_at (atomic_table z v) place hold memory).act (step_at (atomic_table z v) place hold memory).outcome ∷ c.own })
steps_so z v AtomicPlace.Look c hold memory number next so is = look_done z (memory Word.State) _ next (lets_readers_in (memory Word.State)) refl so.done.0 refl is
steps_so z v (AtomicPlace.Enter seen to) c hold memory number next so is = enter_done z c.call c.own seen to (memory Word.State) number next (memory Word.State == seen) so.done.0 is
steps_so {T} z v (AtomicPlace.Take call) c hold memory number next so is =
    let w = memory Word.State in
    subst (λ (k : Call T). wants k ≡ Some HoldKind.Write → HasDone z next (record { call = k; own = event number (Act.Exchange Word.State 0 (2 ^ 64 - 1) w (w == 0)) Then.GoesOn ∷ c.own })) (sym so.at.0)
    (λ writes. take_done z call c.own w number next (w == 0) so.done.0 writes is) so.done.1
steps_so z v (AtomicPlace.Low call) c hold memory number next so is = leads z (AtomicPlace.High call (memory Word.Low)) next _ is (so.done.0, refl)
steps_so {T} z v (AtomicPlace.High call low) c hold memory number next so is =
    let w = memory Word.High in
    subst (λ (k : Call T). is_some (wants k) ≡ true → HasDone z next (record { call = k; own = event number (Act.Load Word.High w) (outcome_of (knows z call (z.of_words low w))) ∷ c.own })) (sym so.at.0)
    (λ known. high_done z c.own low w number next so.done.0 so.at.4 call known so.at.2.1 is) so.known
steps_so {T} z v (AtomicPlace.Again old) c hold memory number next so is =
    subst (λ (k : Call T). Asks z old k c.own hold → HasDone z next (record { call = k; own = event number (Act.Load Word.High (memory Word.High)) Then.GoesOn ∷ c.own })) (sym so.at.0)
    (λ asks. again_done z old c.own hold so.done.1 (memory Word.High) number next asks so.done.3 so.done.4 is) so.at.1
steps_so z v (AtomicPlace.PutLow low high answer) c hold memory number next so is = leads z (AtomicPlace.PutHigh high answer) next _ is (so.done.0, so.done.1, low, refl)
steps_so z v (AtomicPlace.PutHigh high answer) c hold memory number next so is = leads z (AtomicPlace.Leave answer) next _ is (ap (λ o. o.0) (sym so.done.1.1))
steps_so z v (AtomicPlace.Leave answer) c hold memory number next so is = absurd cc

-- Where the answer of a closure leads.

answers_so : {T : Type 0} (z : Arithmetic T) (place : AtomicPlace T) (c : PendingCall T) (action : WaitAction) (number : ℕ) → HasDone z place c → HasDone z place (record { call = c.call; own = event number (Act.Answered action) Then.GoesOn ∷ c.own })
answers_so z place c action number h1 = grind (arith, nat_tests, eqb-true, eqb-false)

-- At the other places no choice is asked for.
chooses_so :
    {T : Type 0} (z : Arithmetic T) (v : T) (place : AtomicPlace T) (c : PendingCall T) (hold : Option HoldKind) (choice : Option T) (number : ℕ) → At z place c hold → choose_fault (latest_outcome c.own) ≡ None →
    HasDone z ((atomic_table z v).chosen place choice) (record { call = c.call; own = event number (Act.Chosen choice) Then.GoesOn ∷ c.own })
chooses_so z v place c hold choice number h1 h2 = grind (arith, nat_tests, eqb-true, eqb-false)

kept : {T : Type 0} (z : Arithmetic T) (v : T) → IsKeptFromRest z (atomic_table z v) HasNone (At z)
kept z v =
    let basic = atomic_kept z v in
    record {
      begins = λ call place hold is allowed values none. let so = begins_so z call place is in record { at = basic.begins call place hold is allowed values none; known = so.0; done = so.1 };
      steps = λ place c hold memory number next so free is. record { at = basic.steps place c hold memory number next so.at free is; known = so.known; done = steps_so z v place c hold memory number next so is };
      answers = λ place c hold action number so waits. record { at = basic.answers place c hold action number so.at waits; known = so.known; done = answers_so z place c action number so.done };
      chooses = λ place c hold choice number so stands value. record { at = basic.chooses place c hold choice number so.at stands value; known = so.known; done = chooses_so z v place c hold choice number so stands };
      ends = λ place c hold memory answer so is. basic.ends place c hold memory answer so.at is;
    }

-- So each step is the next.

module _ {T : Type 0} (z : Arithmetic T) (call : Call T) (own : List (Event T)) (act : Act T) (outcome : Then T) where
  of_kind : (kind : Option HoldKind) → is_some kind ≡ true → ((k : HoldKind) → StepUnder z k call own act outcome) → MatchOption kind ⊥ (λ k. StepUnder z k call own act outcome)
  of_kind kind h1 h2 = grind (arith, nat_tests, eqb-true, eqb-false)

  enters : (kind : HoldKind) → wants call ≡ Some kind → acts_made z call own ≡ 0 → has_entered own ≡ false → Enters kind own act outcome → AtomicStep z call own act outcome
  enters kind is unmade out step = rw is (rw unmade (rw out step))

  accesses : is_some (wants call) ≡ true → acts_made z call own ≡ 0 → has_entered own ≡ true → Accesses z call own (last_of is_step own) act outcome → AtomicStep z call own act outcome
  accesses known unmade in_it step = of_kind (wants call) known (λ k. rw unmade (rw in_it step))

  leaves : is_some (wants call) ≡ true → acts_made z call own ≡ 1 → Releases (Then.Answers (acts_so z call own).0) act outcome → AtomicStep z call own act outcome
  leaves known made step = of_kind (wants call) known (λ k. rw made step)

next_step :
    {T : Type 0} (z : Arithmetic T) (v : T) (place : AtomicPlace T) (c : PendingCall T) (hold : Option HoldKind) (memory : Word → ℕ) → At z place c hold →
    AtomicStep z c.call c.own (step_at (atomic_table z v) place hold memory).act (step_at (atomic_table z v) place hold memory).outcome
next_step z v place c hold memory h1 = grind (arith, nat_tests, eqb-true, eqb-false)

pub each_steps : {T : Type 0} (z : Arithmetic T) (v : T) (parties : ℕ) (past : List (Event T)) → IsPast z (atomic_table z v) parties past → StepsAs (AtomicStep z) past
each_steps z v parties past run =
    steps_follow z (atomic_table z v) parties (At z) (AtomicStep z)
    (λ before goes party c place called stage. at_place_from_rest z (atomic_table z v) HasNone (At z) (kept z v) parties refl before goes party c place called stage) (next_step z v) past run
