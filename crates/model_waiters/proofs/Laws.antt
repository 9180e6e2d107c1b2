-- The count keeps its law at every prefix of every run.
use Rattle.std.proofs.Common.{◌≡◌, ℕ, ◌+◌, ◌==◌, ◌≤◌, ◌<◌, refl, ◌∙◌, ap, subst, Bool, true, false, cond, List, [], ◌∷◌, length, Option, Some, None, arith}
use Rattle.std.specs.Prelude.{MatchBool}
use Rattle.std.proofs.lemmas.Bool.{eqb-true, eqb-false}
use Rattle.std.proofs.lemmas.Bool.Decides.{nat_tests}
use Rattle.model_events.specs.Exports.{Arithmetic, is_refusal, Move, step_at, fault_at, call_after, hold_of, word_after, event, place_after, IsPast}
use Rattle.model_events.specs.declared.{WaitAction.WaitAction, event.Input.Input, event.Then.Then, hold.HoldKind.HoldKind}
use Rattle.model_events.proofs.Exports.{no_holds, exclusive_unheld, steps_as, Descends, ends_within, IsKept, at_place, fault_at_none, by_move, tells_memory}
use Rattle.model_condvar.specs.Table.{condvar_table}
use Rattle.model_condvar.specs.Waiters.{counts_in, without, times, CountsWaiters}
use Rattle.model_condvar.proofs.Counts.{CountEffect, none_wait, counts_after}
use Rattle.model_waiters.specs.Names.{Word, Act, Call, Event, PendingCall, call_of, word_in, is_step, last_of, is_count, is_counted, waiting_after, WaitersPlace}
use Rattle.model_waiters.specs.Table.{waiters_table, waiters_begins, waiters_after}
use Rattle.model_waiters.specs.Law.{is_in, is_out, ins_in, outs_in, CountsWaits, WaitersStep, waiters_most, KeepsWaiters}

-- What is kept of a call at its place: which it is, its latest step, and how often it has changed the count.

abbrev IsAdded : {T : Type 0} → Option (Act T) → Type 0
IsAdded None = ⊥
IsAdded (Some (Act.Add word old put)) = Unit {0}
IsAdded (Some other) = ⊥

abbrev pub AtWaiters : {T : Type 0} → WaitersPlace → PendingCall T → Option HoldKind → Type 0
AtWaiters WaitersPlace.Look c hold = (c.call ≡ Call.Value) × (last_of is_step c.own ≡ None)
AtWaiters WaitersPlace.CountIn c hold = (c.call ≡ Call.Wait) × (last_of is_step c.own ≡ None) × (counts_in c.own ≡ 0)
AtWaiters WaitersPlace.Inside c hold = (c.call ≡ Call.Wait) × IsAdded (last_of is_step c.own) × (counts_in c.own ≡ 1)
AtWaiters WaitersPlace.CountOut c hold = (c.call ≡ Call.Wait) × (last_of is_step c.own ≡ Some Act.Ended) × (counts_in c.own ≡ 1)

pub waiters_kept : {T : Type 0} → IsKept {T = T} waiters_table AtWaiters
waiters_kept = grind (arith, nat_tests, eqb-true, eqb-false)

waiters_step :
    {T : Type 0} (place : WaitersPlace) (c : PendingCall T) (hold : Option HoldKind) (memory : Word → ℕ) → AtWaiters place c hold →
    WaitersStep {T = T} c.call c.own (step_at waiters_table place hold memory).act (step_at waiters_table place hold memory).outcome
waiters_step place c hold memory h1 = grind (arith, nat_tests, eqb-true, eqb-false)

-- What one more event tells: of the count, and of those that were counted in and out.

abbrev once_if : Bool → ℕ
once_if b = cond b 1 0

-- a call that changes the count, and was counted or not, is counted in or out; and else it is neither
abbrev CountsSo : {T : Type 0} → Act T → Bool → Bool → Type 0
CountsSo act was is =
    MatchBool (is_count act) (once_if (is_in act) + once_if was ≡ once_if (is_out act) + once_if is) ((once_if (is_in act) ≡ 0) × (once_if (is_out act) ≡ 0))

pub record EventLaw {T : Type 0} (party w : ℕ) (pending : Option (PendingCall T)) (m : Move T) : Type 0 where
  pub unrefused : is_refusal m.outcome ≡ false
  pub count : CountEffect w (word_after Word.Waiters m.act w) (is_count m.act) (is_counted pending) (is_counted (call_after m.outcome (event party m.act m.outcome) pending))
  pub changes : CountsSo m.act (is_counted pending) (is_counted (call_after m.outcome (event party m.act m.outcome) pending))

step_law :
    {T : Type 0} (party : ℕ) (c : PendingCall T) (place : WaitersPlace) (hold : Option HoldKind) (memory : Word → ℕ) → AtWaiters place c hold →
    EventLaw party (memory Word.Waiters) (Some c) (step_at waiters_table place hold memory)
step_law party c place hold memory h1 = grind (arith, nat_tests, eqb-true, eqb-false)

begun_law :
    {T : Type 0} (party w : ℕ) (pending : Option (PendingCall T)) (hold : Option HoldKind) (call : Call T) → fault_at {T = T} waiters_table pending hold (Input.Begin call) ≡ None →
    EventLaw party w pending (record { act = Act.Begun call; outcome = Then.GoesOn })
begun_law party w pending hold call h1 = grind (arith, nat_tests, eqb-true, eqb-false)

answered_law : {T : Type 0} (party w : ℕ) (pending : Option (PendingCall T)) (action : WaitAction) → EventLaw {T = T} party w pending (record { act = Act.Answered action; outcome = Then.GoesOn })
answered_law party w pending action = grind (arith, nat_tests, eqb-true, eqb-false)

chosen_law : {T : Type 0} (party w : ℕ) (pending : Option (PendingCall T)) (choice : Option T) → EventLaw {T = T} party w pending (record { act = Act.Chosen choice; outcome = Then.GoesOn })
chosen_law party w pending choice = grind (arith, nat_tests, eqb-true, eqb-false)

event_law :
    {T : Type 0} (z : Arithmetic T) (parties : ℕ) (past : List (Event T)) (e : Event T) → IsPast z waiters_table parties (e ∷ past) →
    EventLaw e.party (word_in waiters_table past Word.Waiters) (call_of e.party past) (record { act = e.act; outcome = e.then })
event_law {T} z parties past e run =
    by_move waiters_table (call_of e.party past) (hold_of waiters_table e.party past) (word_in waiters_table past)
    (λ (k : Option (PendingCall T)) (m : Move T). EventLaw e.party (word_in waiters_table past Word.Waiters) k m)
    run.0.0 (record { act = e.act; outcome = e.then })
    (λ call is. begun_law e.party _ _ (hold_of waiters_table e.party past) call (subst (λ (i : Input T). fault_at waiters_table (call_of e.party past) (hold_of waiters_table e.party past) i ≡ None) is (fault_at_none waiters_table parties past e.party run.0.0 run.0.1.allowed)))
    (λ action _. answered_law e.party _ _ action)
    (λ choice _. chosen_law e.party _ _ choice)
    (λ c place _ called stage.
    step_law e.party c place (hold_of waiters_table e.party past) (word_in waiters_table past)
    (at_place z waiters_table parties AtWaiters waiters_kept past run.1 e.party c place called stage))
    run.0.1.moved

-- The count and who waits.

-- it is that of the whole condition variable's model after the same events
same_count : {T : Type 0} (past : List (Event T)) → word_in waiters_table past Word.Waiters ≡ word_in condvar_table past Word.Waiters
same_count [] = refl
same_count (e ∷ past) = ap (word_after Word.Waiters e.act) (same_count past)

shorter : (p : ℕ) (parties : List ℕ) → length (without p parties) + times p parties ≡ length parties
shorter p [] = refl
shorter p (q ∷ parties) = by_test (shorter p parties) (q == p) refl
  where
    by_test : length (without p parties) + times p parties ≡ length parties → (b : Bool) → (q == p) ≡ b → length (cond b (without p parties) (q ∷ without p parties)) + (cond b 1 0 + times p parties) ≡ length {A = ℕ} (q ∷ parties)
    by_test rest true is = omega (arith, rest)
    by_test rest false is = omega (arith, rest)

-- an event that counts so many in and out
left_after :
    (party a b : ℕ) (waiting : List ℕ) (ins outs w v : ℕ) (counts was is : Bool) → CountEffect w v counts was is → MatchBool counts (a + once_if was ≡ b + once_if is) ((a ≡ 0) × (b ≡ 0)) → times party waiting ≡ once_if was →
    length (without party waiting) + times party waiting ≡ length waiting → ins ≡ outs + length waiting → a + ins ≡ b + outs + length (cond counts (cond was (without party waiting) (party ∷ waiting)) waiting)
left_after party a b waiting ins outs w v counts was is h1 h2 h3 h4 h5 = grind (arith, nat_tests, eqb-true, eqb-false)

pub record Counted {T : Type 0} (past : List (Event T)) : Type 0 where
  pub waiters : CountsWaiters past
  pub left : ins_in past ≡ outs_in past + length (waiting_after past)

counted : {T : Type 0} (z : Arithmetic T) (parties : ℕ) (past : List (Event T)) → IsPast z waiters_table parties past → Counted past
counted z parties [] run = record { waiters = none_wait; left = refl }
counted {T} z parties (e ∷ past) run =
    let before = counted z parties past run.1 in
    let law = event_law z parties past e run in
    let was = is_counted (call_of e.party past) in
    let is = is_counted (call_after e.then e (call_of e.party past)) in
    record {
      waiters = counts_after past e before.waiters (subst (λ n. CountEffect n (word_after Word.Waiters e.act n) (is_count e.act) was is) (same_count past) law.count);
      left = left_after e.party _ _ (waiting_after past) _ _ _ _ (is_count e.act) was is law.count law.changes (before.waiters.exactly e.party) (shorter e.party (waiting_after past)) before.left;
    }

counts_waits : {T : Type 0} (past : List (Event T)) → Counted past → CountsWaits past
counts_waits past is = record { counts = same_count past ∙ is.waiters.counts; exactly = is.waiters.exactly; left = is.left }

-- A call has so many steps left at each place.

abbrev waiters_rest : WaitersPlace → Option ℕ
waiters_rest WaitersPlace.Look = Some 1
waiters_rest WaitersPlace.CountIn = Some 3
waiters_rest WaitersPlace.Inside = Some 2
waiters_rest WaitersPlace.CountOut = Some 1

waiters_begun : {T : Type 0} (call : Call T) (place : WaitersPlace) (steps : ℕ) → waiters_begins call ≡ Some place → waiters_most call ≡ Some steps → (left : ℕ) × (waiters_rest place ≡ Some left) × (left ≤ steps)
waiters_begun call place steps h1 h2 = grind (arith, nat_tests, eqb-true, eqb-false)

waiters_goes : (T : Type 0) (place next : WaitersPlace) (told : Option ℕ) (left : ℕ) → waiters_rest place ≡ Some left → place_after (waiters_after {T = T} place told) ≡ Some next → (fewer : ℕ) × (waiters_rest next ≡ Some fewer) × (fewer < left)
waiters_goes T place next told left h1 h2 = grind (arith, nat_tests, eqb-true, eqb-false)

waiters_some : (place : WaitersPlace) (left : ℕ) → waiters_rest place ≡ Some left → 0 < left
waiters_some place left h1 = grind (arith, nat_tests, eqb-true, eqb-false)

waiters_descends : {T : Type 0} → Descends {T = T} waiters_table waiters_most waiters_rest
waiters_descends {T} = record { begins = waiters_begun; goes = waiters_goes T; some = waiters_some; answered = λ place action. refl; chosen = λ place choice. refl }

unrefused : {T : Type 0} (outcome : Then T) (P : Type 0) → is_refusal outcome ≡ false → MatchBool (is_refusal outcome) P (Unit {0})
unrefused outcome P none = rw none tt

pub keeps_waiters : {T : Type 0} (z : Arithmetic T) (parties : ℕ) (past : List (Event T)) → IsPast z waiters_table parties past → KeepsWaiters past
keeps_waiters z parties [] run =
    record {
      told = tt;
      exclusive = exclusive_unheld [] refl;
      cause = tt;
      law = record { unheld = refl; waiters = counts_waits [] (counted z parties [] run); steps = tt; within = λ party. tt };
    }
keeps_waiters z parties (e ∷ past) run =
    let unheld = no_holds waiters_table (λ call from to. refl) (e ∷ past) in
    record {
      told = tells_memory z waiters_table parties (e ∷ past) run;
      exclusive = exclusive_unheld _ unheld;
      cause = unrefused e.then _ (event_law z parties past e run).unrefused;
      law = record {
        unheld = unheld;
        waiters = counts_waits (e ∷ past) (counted z parties (e ∷ past) run);
        steps = steps_as z waiters_table parties AtWaiters WaitersStep waiters_kept waiters_step (e ∷ past) run;
        within = ends_within waiters_table waiters_most waiters_rest waiters_descends z parties (e ∷ past) run;
      };
    }
