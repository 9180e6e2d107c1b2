-- A lazy value keeps its law at every prefix of every run. The word and the closure are those of the once inside.
use Rattle.std.proofs.lemmas.Bool.Decides.{nat_tests}
use Rattle.std.proofs.Common.{◌≡◌, ℕ, ◌≤◌, refl, subst, Bool, true, false, cond, List, [], ◌∷◌, Option, Some, inl, inr, arith}
use Rattle.std.specs.Prelude.{IfSome, MatchBool, MatchOption}
use Rattle.std.proofs.lemmas.Bool.{eqb-true, eqb-false}
use Rattle.model_events.specs.Exports.{Arithmetic, outcome_of, same_word, PendingCall, call_of, hold_of, word_in, word_after, event, Move, step_at, is_step, IsPast, AtLast, last_of, IsTold, Lacks, is_refusal}
use Rattle.model_events.specs.declared.{event.Act.Act, event.Answer.Answer, event.Call.Call, event.Event.Event, event.Then.Then, event.Word.Word, hold.HoldKind.HoldKind}
use Rattle.model_events.proofs.Exports.{no_holds, exclusive_unheld, by_move, tells_memory, IsKept, at_place, steps_as, IsCallAfter, call_was}
use Rattle.model_once.specs.declared.OncePlace.{OncePlace}
use Rattle.model_once.specs.Table.{found_after}
use Rattle.model_once.specs.Closures.{is_begin, is_end, is_load, begins_in, ends_in}
use Rattle.model_once.proofs.Laws.{AtOnce, has_begun}
use Rattle.model_once.proofs.ClosureSteps.{IsLed}
use Rattle.model_once.proofs.Closures.{missed_since, IsClosureIntent, RunsOneClosure, at_most_one, complete_ended, closure_prefix, stays_complete, tells_state, own_began}
use Rattle.model_lazy.specs.declared.LazyPlace.{LazyPlace}
use Rattle.model_lazy.specs.Table.{lazy_table, lazy_intent, reads_next}
use Rattle.model_lazy.specs.Law.{LazyCause, is_read, shows_end, has_shown, LazyStep, KeepsLazy}

-- What is kept of a call at its place.

-- the call has seen the word at 2, or put it there
abbrev pub has_seen_end : {T : Type 0} → List (Event T) → Bool
has_seen_end [] = false
has_seen_end (e ∷ own) = cond (shows_end e.act) true (has_seen_end own)

-- of its own events: in the once inside what a once keeps, and at the read the end
abbrev pub IsAt : {T : Type 0} → LazyPlace → PendingCall T → Option HoldKind → Type 0
IsAt (LazyPlace.Once OncePlace.IsCompleted) c hold = ⊥
IsAt (LazyPlace.Once place) c hold = AtOnce place c hold
IsAt LazyPlace.Read c hold = has_seen_end c.own ≡ true

-- of its latest steps, where those lead
abbrev pub IsWhereLed : {T : Type 0} → LazyPlace → List (Event T) → Type 0
IsWhereLed (LazyPlace.Once place) own = IsLed place own × (has_shown (last_of is_step own) ≡ false)
IsWhereLed LazyPlace.Read own = has_shown (last_of is_step own) ≡ true

pub record AtLazy {T : Type 0} (place : LazyPlace) (c : PendingCall T) (hold : Option HoldKind) : Type 0 where
  pub call : c.call ≡ Call.Force
  pub own : IsAt place c hold
  pub led : IsWhereLed place c.own

-- Where a step leads.

-- no call of a lazy value stands, but an answer of a closure would change nothing

pub lazy_kept : {T : Type 0} (v : T) → IsKept (lazy_table v) AtLazy
lazy_kept v = grind (arith, nat_tests, eqb-true, eqb-false)

-- A lazy value runs one closure.

lazy_closure_intent : {T : Type 0} (v : T) (place : LazyPlace) (c : PendingCall T) (hold : Option HoldKind) → IsAt place c hold → IsClosureIntent {T = T} c.own (lazy_intent v Word.State place)
lazy_closure_intent v place c hold h1 = grind (arith, nat_tests, eqb-true, eqb-false)

runs_one : {T : Type 0} (z : Arithmetic T) (v : T) (parties : ℕ) → RunsOneClosure z (lazy_table v) parties
runs_one z v parties =
    record {
      opens = refl;
      steps = λ past party c place run called stage. lazy_closure_intent v place c (hold_of (lazy_table v) party past) (at_place z (lazy_table v) parties AtLazy (lazy_kept v) past run party c place called stage).own;
    }

-- What a call has seen of the end stays so.

shown_here : {T : Type 0} (act : Act T) (memory : Word → ℕ) → IsTold act memory → shows_end act ≡ true → word_after Word.State act (memory Word.State) ≡ 2
shown_here act memory h1 h2 = grind (arith, nat_tests, eqb-true, eqb-false)

two_since :
    {T : Type 0} (z : Arithmetic T) (v : T) (parties : ℕ) (past : List (Event T)) → IsPast z (lazy_table v) parties past → (party : ℕ) (c : PendingCall T) → call_of party past ≡ Some c → has_seen_end c.own ≡ true →
    word_in (lazy_table v) past Word.State ≡ 2
two_since z v parties [] run party c called seen = absurd cc
two_since {T} z v parties (e ∷ past) run party c called seen = by_call (two_since z v parties past run.1) (call_was past e party c called)
  where
    still : word_in (lazy_table v) past Word.State ≡ 2 → word_in (lazy_table v) (e ∷ past) Word.State ≡ 2
    still = stays_complete z (lazy_table v) parties (runs_one z v parties) past e run

    by_test : (shows : Bool) → shows_end e.act ≡ shows → (own : List (Event T)) → (has_seen_end own ≡ true → word_in (lazy_table v) past Word.State ≡ 2) → cond shows true (has_seen_end own) ≡ true → word_in (lazy_table v) (e ∷ past) Word.State ≡ 2
    by_test true shows own rest seen = shown_here e.act (word_in (lazy_table v) past) (tells_memory z (lazy_table v) parties (e ∷ past) run) shows
    by_test false shows own rest seen = still (rest seen)

    by_call : ((p : ℕ) (k : PendingCall T) → call_of p past ≡ Some k → has_seen_end k.own ≡ true → word_in (lazy_table v) past Word.State ≡ 2) → IsCallAfter past e party c → word_in (lazy_table v) (e ∷ past) Word.State ≡ 2
    by_call rest (inl other) = still (rest party c other.1 seen)
    by_call rest (inr (inl begun)) = let no : has_seen_end {T = T} [] ≡ true = subst (λ (own : List (Event T)). has_seen_end own ≡ true) begun.1 seen in absurd cc
    by_call rest (inr (inr on)) = by_test (shows_end e.act) refl on.1.0.own (rest party on.1.0 on.1.1) (subst (λ (own : List (Event T)). has_seen_end own ≡ true) on.1.2 seen)

-- What one more event tells.

pub record EventLaw {T : Type 0} (v : T) (party : ℕ) (past : List (Event T)) (pending : Option (PendingCall T)) (m : Move T) : Type 0 where
  pub cause : MatchBool (is_refusal m.outcome) (MatchOption pending ⊥ (λ c. LazyCause c.call party (event party m.act m.outcome ∷ past))) (Unit {0})
  pub own : MatchBool (is_end m.act) (AtLast is_begin (λ before. begins_in before ≡ 0) party past) (Unit {0})
  pub waits : MatchBool (is_load m.act) (MatchOption pending ⊥ (λ c. IfSome (last_of is_step c.own) (λ before. 1 ≤ begins_in past))) (Unit {0})
  pub answers :
      MatchBool (is_read m.act)
      ((m.act ≡ Act.ReadCell v) × (m.outcome ≡ Then.Answers (Answer.Value v)) × (word_in (lazy_table v) past Word.State ≡ 2) × (ends_in past ≡ 1))
      (m.outcome ≡ Then.GoesOn)

-- a step in the once inside goes on
goes_on_at : (T : Type 0) (place : OncePlace) (found : ℕ) → outcome_of {T = T} (reads_next (found_after place found)) ≡ Then.GoesOn
goes_on_at T place found = grind (arith, nat_tests, eqb-true, eqb-false)

-- a step that goes on, and reads nothing
goes_on_law :
    {T : Type 0} (v : T) (party : ℕ) (past : List (Event T)) (c : PendingCall T) (act : Act T) (outcome : Then T) → outcome ≡ Then.GoesOn → is_read act ≡ false →
    MatchBool (is_end act) (AtLast is_begin (λ before. begins_in before ≡ 0) party past) (Unit {0}) →
    MatchBool (is_load act) (IfSome (last_of is_step c.own) (λ before. 1 ≤ begins_in past)) (Unit {0}) → EventLaw v party past (Some c) (record { act = act; outcome = outcome })
goes_on_law v party past c act outcome h1 h2 h3 h4 = grind (arith, nat_tests, eqb-true, eqb-false)

step_law :
    {T : Type 0} (z : Arithmetic T) (v : T) (parties party : ℕ) (past : List (Event T)) → IsPast z (lazy_table v) parties past → (c : PendingCall T) → call_of party past ≡ Some c →
    (place : LazyPlace) (hold : Option HoldKind) → AtLazy place c hold → EventLaw v party past (Some c) (step_at (lazy_table v) place hold (word_in (lazy_table v) past))
step_law z v parties party past run c called (LazyPlace.Once OncePlace.IsCompleted) hold at = absurd at.own
step_law {T} z v parties party past run c called (LazyPlace.Once OncePlace.Look) hold at =
    goes_on_law v party past c _ _ (goes_on_at T OncePlace.Look _) refl tt (rw at.own tt)
step_law {T} z v parties party past run c called (LazyPlace.Once OncePlace.Begin) hold at =
    goes_on_law v party past c _ _ (goes_on_at T OncePlace.Begin _) refl tt tt
step_law {T} z v parties party past run c called (LazyPlace.Once OncePlace.Run) hold at =
    let prefix = closure_prefix z (lazy_table v) parties (runs_one z v parties) past run in
    goes_on_law v party past c _ _ (goes_on_at T OncePlace.Run 0) refl (own_began z (lazy_table v) parties party past run c called at.own (at_most_one _ _ _ prefix.state).0) tt
step_law {T} z v parties party past run c called (LazyPlace.Once OncePlace.Complete) hold at =
    goes_on_law v party past c _ _ (goes_on_at T OncePlace.Complete 0) refl tt tt
step_law {T} z v parties party past run c called (LazyPlace.Once OncePlace.Stay) hold at =
    goes_on_law v party past c _ _ (goes_on_at T OncePlace.Stay _) refl tt (has_begun (last_of is_step c.own) (missed_since z (lazy_table v) parties (runs_one z v parties) past run party c called at.own))
step_law z v parties party past run c called LazyPlace.Read hold at =
    let two = two_since z v parties past run party c called at.own in
    let prefix = closure_prefix z (lazy_table v) parties (runs_one z v parties) past run in
    record {
      cause = tt;
      own = tt;
      waits = tt;
      answers = (refl, refl, two, complete_ended _ _ _ prefix.state two);
    }

event_law :
    {T : Type 0} (z : Arithmetic T) (v : T) (parties : ℕ) (past : List (Event T)) (e : Event T) → IsPast z (lazy_table v) parties (e ∷ past) → EventLaw v e.party past (call_of e.party past) (record { act = e.act; outcome = e.then })
event_law {T} z v parties past e run =
    by_move (lazy_table v) (call_of e.party past) (hold_of (lazy_table v) e.party past) (word_in (lazy_table v) past) (λ (k : Option (PendingCall T)) (m : Move T). EventLaw v e.party past k m)
    run.0.0 (record { act = e.act; outcome = e.then })
    (λ call _. record { cause = tt; own = tt; waits = tt; answers = refl })
    (λ action _. record { cause = tt; own = tt; waits = tt; answers = refl })
    (λ choice _. record { cause = tt; own = tt; waits = tt; answers = refl })
    (λ c place _ called stage.
    step_law z v parties e.party past run.1 c called place (hold_of (lazy_table v) e.party past) (at_place z (lazy_table v) parties AtLazy (lazy_kept v) past run.1 e.party c place called stage))
    run.0.1.moved

-- each step is its call's next

lazy_step :
    {T : Type 0} (v : T) (place : LazyPlace) (c : PendingCall T) (hold : Option HoldKind) (memory : Word → ℕ) → AtLazy place c hold →
    LazyStep v c.call c.own (step_at (lazy_table v) place hold memory).act (step_at (lazy_table v) place hold memory).outcome
lazy_step v place c hold memory h1 = grind (arith, nat_tests, eqb-true, eqb-false)

pub keeps_lazy : {T : Type 0} (z : Arithmetic T) (v : T) (parties : ℕ) (past : List (Event T)) → IsPast z (lazy_table v) parties past → KeepsLazy v past
keeps_lazy z v parties [] run =
    let prefix = closure_prefix z (lazy_table v) parties (runs_one z v parties) [] run in
    record { told = tt; exclusive = exclusive_unheld [] refl; cause = tt; law = record { unheld = refl; one = omega arith; ends = omega arith; own = tt; steps = tt; waits = tt; answers = tt; stays = tt; state = tells_state (lazy_table v) [] prefix.state } }
keeps_lazy z v parties (e ∷ past) run =
    let event = event_law z v parties past e run in
    let prefix = closure_prefix z (lazy_table v) parties (runs_one z v parties) (e ∷ past) run in
    let most = at_most_one _ _ _ prefix.state in
    let unheld = no_holds (lazy_table v) (λ call from to. refl) (e ∷ past) in
    record {
      told = tells_memory z (lazy_table v) parties (e ∷ past) run;
      exclusive = exclusive_unheld _ unheld;
      cause = event.cause;
      law =
          record {
            unheld = unheld;
            one = most.0;
            ends = most.2;
            own = event.own;
            steps = steps_as z (lazy_table v) parties AtLazy (LazyStep v) (lazy_kept v) (lazy_step v) (e ∷ past) run;
            waits = event.waits;
            answers = event.answers;
            stays = stays_complete z (lazy_table v) parties (runs_one z v parties) past e run;
            state = tells_state (lazy_table v) (e ∷ past) prefix.state;
          };
    }

-- a lazy value has no other word
pub lazy_lacks : (T : Type 0) (v : T) (word : Word) → same_word Word.State word ≡ false → Lacks (lazy_table v) word
lazy_lacks T v word h1 = grind (arith, nat_tests, eqb-true, eqb-false)
