-- A once keeps its law at every prefix of every run.
use Rattle.model_once.proofs.Names.{eqb-false, ◌≡◌, ℕ, ◌≤◌, ◌==◌, refl, subst, Bool, true, false, cond, List, [], ◌∷◌, Option, Some, None, arith, ◌<◌, eqb-true, some_same, no_holds, exclusive_unheld, by_move, tells_memory, own_among, nat_tests, IsKept, at_place, both_kept, steps_as, Descends, ends_within, IfSome, MatchBool, MatchOption, Word, Call, Act, Answer, Event, Then, After, Arithmetic, carried_out, value_told, outcome_of, place_after, same_word, PendingCall, call_of, hold_of, word_in, word_after, event, Move, step_at, is_step, IsPast, AtLast, last_of, StepsAs, Lacks, is_refusal, OncePlace, is_begin, is_end, is_load, begins_in, ends_in}
use Rattle.model_events.specs.declared.{hold.HoldKind.HoldKind}
use Rattle.model_once.specs.Table.{once_table, once_begins, once_intent, once_after}
use Rattle.model_once.proofs.ClosureSteps.{IsLed, look_led, stay_led, begin_led, miss_led, quiet_led}
use Rattle.model_once.specs.Law.{OnceCause, OnceStep, tells_end, is_done, KeepsOnce, once_most}
use Rattle.model_once.proofs.Closures.{is_running, has_missed, missed_since, IsClosureIntent, RunsOneClosure, IsState, at_most_one, closure_prefix, stays_complete, tells_state, own_began}

-- What is kept of a call at its place.

abbrev pub AtOnce : {T : Type 0} → OncePlace → PendingCall T → Option HoldKind → Type 0
AtOnce OncePlace.Run c hold = is_running c.own ≡ true
AtOnce OncePlace.Complete c hold = 1 ≤ ends_in c.own
AtOnce OncePlace.IsCompleted c hold = last_of is_step c.own ≡ None
AtOnce OncePlace.Look c hold = last_of is_step c.own ≡ None
AtOnce OncePlace.Stay c hold = has_missed c.own ≡ true
AtOnce place c hold = Unit {0}

-- Where a step leads.

-- how a call goes on after a look, by whether it saw 2
abbrev pub seen_after : {T : Type 0} → OncePlace → Bool → After T OncePlace
seen_after on complete = cond complete (After.Ends Answer.Done) (After.At on)

-- and after its exchange, by whether it was done
abbrev pub begin_after : {T : Type 0} → Bool → After T OncePlace
begin_after done = cond done (After.At OncePlace.Run) (After.At OncePlace.Stay)

-- Where an answer leads: no call of a once stands.

pub once_kept : {T : Type 0} → IsKept {T = T} once_table AtOnce
once_kept = grind (arith, nat_tests, eqb-true, eqb-false)

-- Which call has which place.

abbrev pub call_at : {T : Type 0} → OncePlace → Call T
call_at OncePlace.IsCompleted = Call.IsCompleted
call_at other = Call.CallOnce

abbrev pub IsItsCall : {T : Type 0} → OncePlace → PendingCall T → Option HoldKind → Type 0
IsItsCall place c hold = c.call ≡ call_at place

-- a look and an exchange lead to a place of the same call

pub its_call_kept : {T : Type 0} → IsKept {T = T} once_table IsItsCall
its_call_kept = grind (arith, nat_tests, eqb-true, eqb-false)

-- What it has made at each place.

abbrev IsWhereLed : {T : Type 0} → OncePlace → PendingCall T → Option HoldKind → Type 0
IsWhereLed place c hold = IsLed place c.own

begins_led : {T : Type 0} (call : Call T) (place : OncePlace) → once_begins call ≡ Some place → IsLed {T = T} place []
begins_led call place h1 = grind (arith, nat_tests, eqb-true, eqb-false)

-- where a look leads, by whether it saw 2
seen_leads :
    {T : Type 0} (own : List (Event T)) (on next : OncePlace) (complete : Bool) (e : Event T) → (complete ≡ false → IsLed on (e ∷ own)) → place_after {T = T} (seen_after on complete) ≡ Some next → IsLed next (e ∷ own)
seen_leads own on next complete e h1 h2 = grind (arith, nat_tests, eqb-true, eqb-false)

-- and the exchange, by whether it was done
begin_leads :
    {T : Type 0} (own : List (Event T)) (w number : ℕ) (outcome : Then T) (next : OncePlace) (done : Bool) → place_after {T = T} (begin_after done) ≡ Some next → IsLed next (event number (Act.Exchange Word.State 0 1 w done) outcome ∷ own)
begin_leads {T} own w number outcome next true is = subst (λ p. IsLed {T = T} p (event number (Act.Exchange Word.State 0 1 w true) outcome ∷ own)) (some_same OncePlace.Run next is) (begin_led own w number outcome)
begin_leads {T} own w number outcome next false is = subst (λ p. IsLed {T = T} p (event number (Act.Exchange Word.State 0 1 w false) outcome ∷ own)) (some_same OncePlace.Stay next is) (miss_led own w number outcome)

step_leads :
    {T : Type 0} (place : OncePlace) (c : PendingCall T) (hold : Option HoldKind) (memory : Word → ℕ) (number : ℕ) (next : OncePlace) → IsLed place c.own →
    place_after {T = T} (once_after place (value_told {T = T} (carried_out (once_intent Word.State place) memory))) ≡ Some next →
    IsLed next (event number (step_at once_table place hold memory).act (step_at once_table place hold memory).outcome ∷ c.own)
step_leads OncePlace.IsCompleted c hold memory number next led is = absurd cc
step_leads OncePlace.Look c hold memory number next led is = seen_leads c.own OncePlace.Begin next (memory Word.State == 2) _ (λ sees. look_led c.own (memory Word.State) number (step_at once_table OncePlace.Look hold memory).outcome sees led.1) is
step_leads OncePlace.Begin c hold memory number next led is = begin_leads c.own (memory Word.State) number _ next (memory Word.State == 0) is
step_leads {T} OncePlace.Run c hold memory number next led is = subst (λ p. IsLed {T = T} p (event number Act.Ended Then.GoesOn ∷ c.own)) (some_same OncePlace.Complete next is) refl
step_leads OncePlace.Complete c hold memory number next led is = absurd cc
step_leads OncePlace.Stay c hold memory number next led is = seen_leads c.own OncePlace.Stay next (memory Word.State == 2) _ (λ sees. stay_led c.own (memory Word.State) number (step_at once_table OncePlace.Stay hold memory).outcome sees led.1) is

led_kept : {T : Type 0} → IsKept {T = T} once_table IsWhereLed
led_kept =
    record {
      begins = λ call place hold is allowed. begins_led call place is;
      steps = λ place c hold memory number next at free is. step_leads place c hold memory number next at is;
      answers = λ place c hold action number at stands. quiet_led place c.own (event number (Act.Answered action) Then.GoesOn) refl refl at;
      chooses = λ place c hold choice number at stands. quiet_led place c.own (event number (Act.Chosen choice) Then.GoesOn) refl refl at;
    }

-- So its step there is its next.

once_step :
    {T : Type 0} (place : OncePlace) (c : PendingCall T) (hold : Option HoldKind) (memory : Word → ℕ) → IsItsCall place c hold × IsLed place c.own →
    OnceStep {T = T} c.call c.own (step_at once_table place hold memory).act (step_at once_table place hold memory).outcome
once_step place c hold memory h1 = grind (arith, nat_tests, eqb-true, eqb-false)

-- A once runs one closure.

pub closure_intent : {T : Type 0} (place : OncePlace) (c : PendingCall T) (hold : Option HoldKind) → AtOnce place c hold → IsClosureIntent {T = T} c.own (once_intent Word.State place)
closure_intent place c hold h1 = grind (arith, nat_tests, eqb-true, eqb-false)

runs_one : {T : Type 0} (z : Arithmetic T) (parties : ℕ) → RunsOneClosure {T = T} z once_table parties
runs_one z parties =
    record {
      opens = refl;
      steps = λ past party c place run called stage. closure_intent place c (hold_of once_table party past) (at_place z once_table parties AtOnce once_kept past run party c place called stage);
    }

-- What one more event tells.

pub record EventLaw {T : Type 0} (party : ℕ) (past : List (Event T)) (w : ℕ) (pending : Option (PendingCall T)) (m : Move T) : Type 0 where
  pub cause : MatchBool (is_refusal m.outcome) (MatchOption pending ⊥ (λ c. OnceCause c.call party (event party m.act m.outcome ∷ past))) (Unit {0})
  pub own : MatchBool (is_end m.act) (AtLast is_begin (λ before. begins_in before ≡ 0) party past) (Unit {0})
  pub waits : MatchBool (is_load m.act) (MatchOption pending ⊥ (λ c. IfSome (last_of is_step c.own) (λ before. 1 ≤ begins_in past))) (Unit {0})
  pub answers : MatchBool (tells_end m.outcome) (ends_in past ≡ 1) (Unit {0})
  pub done : MatchBool (is_done m.outcome) (word_after Word.State m.act w ≡ 2) (Unit {0})

-- of a load
flag_law :
    {T : Type 0} (party : ℕ) (past : List (Event T)) (c : PendingCall T) (w : ℕ) (flag : Bool) → last_of is_step c.own ≡ None → IsState w (begins_in past) (ends_in past) → (w == 2) ≡ flag →
    EventLaw party past w (Some c) (record { act = Act.Load Word.State w; outcome = Then.Answers (Answer.Flag flag) })
flag_law party past c w flag h1 h2 h3 = grind (arith, nat_tests, eqb-true, eqb-false)

seen_law :
    {T : Type 0} (party : ℕ) (past : List (Event T)) (c : PendingCall T) (w : ℕ) (on : OncePlace) (complete : Bool) → IfSome (last_of is_step c.own) (λ before. 1 ≤ begins_in past) → IsState w (begins_in past) (ends_in past) → (w == 2) ≡ complete →
    EventLaw party past w (Some c) (record { act = Act.Load Word.State w; outcome = outcome_of {T = T} (seen_after on complete) })
seen_law party past c w on complete h1 h2 h3 = grind (arith, nat_tests, eqb-true, eqb-false)

-- whatever its step before was
pub has_begun : {T : Type 0} {begins : ℕ} (last : Option (Act T)) → 1 ≤ begins → IfSome last (λ before. 1 ≤ begins)
has_begun last h1 = grind (arith, nat_tests, eqb-true, eqb-false)

begin_law :
    {T : Type 0} (party : ℕ) (past : List (Event T)) (c : PendingCall T) (w : ℕ) (done : Bool) →
    EventLaw party past w (Some c) (record { act = Act.Exchange Word.State 0 1 w done; outcome = outcome_of {T = T} (begin_after done) })
begin_law party past c w done = grind (arith, nat_tests, eqb-true, eqb-false)

step_law :
    {T : Type 0} (z : Arithmetic T) (parties party : ℕ) (past : List (Event T)) → IsPast z once_table parties past → (c : PendingCall T) → call_of party past ≡ Some c →
    (place : OncePlace) (hold : Option HoldKind) (memory : Word → ℕ) → AtOnce place c hold → IsState (memory Word.State) (begins_in past) (ends_in past) →
    EventLaw party past (memory Word.State) (Some c) (step_at once_table place hold memory)
step_law z parties party past run c called OncePlace.IsCompleted hold memory at state = flag_law party past c (memory Word.State) (memory Word.State == 2) at state refl
step_law z parties party past run c called OncePlace.Look hold memory at state = seen_law party past c (memory Word.State) OncePlace.Begin (memory Word.State == 2) (rw at tt) state refl
step_law z parties party past run c called OncePlace.Begin hold memory at state = begin_law party past c (memory Word.State) (memory Word.State == 0)
step_law z parties party past run c called OncePlace.Run hold memory at state =
    record { cause = tt; own = own_began z once_table parties party past run c called at (at_most_one _ _ _ state).0; waits = tt; answers = tt; done = tt }
step_law z parties party past run c called OncePlace.Complete hold memory at state =
    record { cause = tt; own = tt; waits = tt; answers = omega (arith, at, own_among is_end past party c called, (at_most_one _ _ _ state).1); done = refl }
step_law z parties party past run c called OncePlace.Stay hold memory at state = seen_law party past c (memory Word.State) OncePlace.Stay (memory Word.State == 2) (has_begun (last_of is_step c.own) (missed_since z once_table parties (runs_one z parties) past run party c called at)) state refl

event_law :
    {T : Type 0} (z : Arithmetic T) (parties : ℕ) (past : List (Event T)) (e : Event T) → IsPast z once_table parties (e ∷ past) →
    EventLaw e.party past (word_in once_table past Word.State) (call_of e.party past) (record { act = e.act; outcome = e.then })
event_law {T} z parties past e run =
    by_move once_table (call_of e.party past) (hold_of once_table e.party past) (word_in once_table past)
    (λ (k : Option (PendingCall T)) (m : Move T). EventLaw e.party past (word_in once_table past Word.State) k m)
    run.0.0 (record { act = e.act; outcome = e.then })
    (λ call _. record { cause = tt; own = tt; waits = tt; answers = tt; done = tt })
    (λ action _. record { cause = tt; own = tt; waits = tt; answers = tt; done = tt })
    (λ choice _. record { cause = tt; own = tt; waits = tt; answers = tt; done = tt })
    (λ c place _ called stage.
    step_law z parties e.party past run.1 c called place (hold_of once_table e.party past) (word_in once_table past)
    (at_place z once_table parties AtOnce once_kept past run.1 e.party c place called stage)
    (closure_prefix z once_table parties (runs_one z parties) past run.1).state)
    run.0.1.moved

each_steps : {T : Type 0} (z : Arithmetic T) (parties : ℕ) (past : List (Event T)) → IsPast z once_table parties past → StepsAs OnceStep past
each_steps z parties past run =
    steps_as z once_table parties (λ place c hold. IsItsCall place c hold × IsWhereLed place c hold) OnceStep (both_kept once_table IsItsCall IsWhereLed its_call_kept led_kept) once_step past run

-- An `IsCompleted` has one step.

abbrev once_rest : OncePlace → Option ℕ
once_rest OncePlace.IsCompleted = Some 1
once_rest other = None

once_begun : {T : Type 0} (call : Call T) (place : OncePlace) (steps : ℕ) → once_begins call ≡ Some place → once_most call ≡ Some steps → (left : ℕ) × (once_rest place ≡ Some left) × (left ≤ steps)
once_begun call place steps h1 h2 = grind (arith, nat_tests, eqb-true, eqb-false)

once_goes : (T : Type 0) (place next : OncePlace) (told : Option ℕ) (left : ℕ) → once_rest place ≡ Some left → place_after (once_after {T = T} place told) ≡ Some next → (fewer : ℕ) × (once_rest next ≡ Some fewer) × (fewer < left)
once_goes T place next told left h1 h2 = grind (arith, nat_tests, eqb-true, eqb-false)

once_some : (place : OncePlace) (left : ℕ) → once_rest place ≡ Some left → 0 < left
once_some place left h1 = grind (arith, nat_tests, eqb-true, eqb-false)

once_descends : {T : Type 0} → Descends {T = T} once_table once_most once_rest
once_descends {T} = record { begins = once_begun; goes = once_goes T; some = once_some; answered = λ place action. refl; chosen = λ place choice. refl }

pub keeps_once : {T : Type 0} (z : Arithmetic T) (parties : ℕ) (past : List (Event T)) → IsPast z once_table parties past → KeepsOnce past
keeps_once z parties [] run =
    record { told = tt; exclusive = exclusive_unheld [] refl; cause = tt; law = record { unheld = refl; one = omega arith; ends = omega arith; own = tt; steps = tt; within = λ party. tt; waits = tt; answers = tt; done = tt; stays = tt; state = tells_state once_table [] (closure_prefix z once_table parties (runs_one z parties) [] run).state } }
keeps_once z parties (e ∷ past) run =
    let event = event_law z parties past e run in
    let prefix = closure_prefix z once_table parties (runs_one z parties) (e ∷ past) run in
    let most = at_most_one _ _ _ prefix.state in
    let unheld = no_holds once_table (λ call from to. refl) (e ∷ past) in
    record {
      told = tells_memory z once_table parties (e ∷ past) run;
      exclusive = exclusive_unheld _ unheld;
      cause = event.cause;
      law = record { unheld = unheld; one = most.0; ends = most.2; own = event.own; steps = each_steps z parties (e ∷ past) run; within = ends_within once_table once_most once_rest once_descends z parties (e ∷ past) run; waits = event.waits; answers = event.answers; done = event.done; stays = stays_complete z once_table parties (runs_one z parties) past e run; state = tells_state once_table (e ∷ past) prefix.state };
    }

-- a once has no other word
pub once_lacks : (T : Type 0) (word : Word) → same_word Word.State word ≡ false → Lacks {T = T} once_table word
once_lacks T word h1 = grind (arith, nat_tests, eqb-true, eqb-false)
