-- One closure, at any table whose word is a once's: a closure begins with an exchange of 0 for 1, ends in its own call, and is told by a store of 2.
use Rattle.model_once.proofs.Names.{◌≡◌, ◌≢◌, ℕ, zero, ◌+◌, ◌≤◌, refl, subst, Bool, true, false, cond, List, [], ◌∷◌, Option, Some, None, ◌⊎◌, inl, inr, arith, eqb-true, tells_memory, IsCallAfter, call_was, own_among, IsToldOf, own_at_last, at_last_maps, eqb-false, nat_tests, MatchOption, Word, Act, Event, Intent, Arithmetic, Table, PendingCall, call_of, hold_of, word_in, word_after, stage_of, IsPast, AtLast, last_of, IsTold, is_begin, is_end, begins_in, ends_in, TellsState}

-- the call's closure runs: it has begun, and not ended since
abbrev pub is_running : {T : Type 0} → List (Event T) → Bool
is_running [] = false
is_running (e ∷ own) = cond (is_begin e.act) true (cond (is_end e.act) false (is_running own))

-- what a step of such an object may do: begin the closure, as far as none has begun; end its call's own, which runs; or store 2, where its call's own has ended
abbrev pub IsClosureIntent : {T : Type 0} → List (Event T) → Intent T → Type 0
IsClosureIntent own (Intent.Exchange Word.State from to) = (from ≡ 0) × (to ≡ 1)
IsClosureIntent own (Intent.Store Word.State put) = (put ≡ 2) × (1 ≤ ends_in own)
IsClosureIntent own Intent.End = is_running own ≡ true
IsClosureIntent own (Intent.Swap Word.State put) = ⊥
IsClosureIntent own (Intent.Add Word.State more) = ⊥
IsClosureIntent own (Intent.Subtract Word.State less) = ⊥
IsClosureIntent own other = Unit {0}

pub record RunsOneClosure {T P : Type 0} (z : Arithmetic T) (t : Table T P) (parties : ℕ) : Type 0 where
  pub opens : t.opening Word.State ≡ 0
  pub steps :
      (past : List (Event T)) (party : ℕ) (c : PendingCall T) (place : P) → IsPast z t parties past → call_of party past ≡ Some c → stage_of t c ≡ Some place →
      IsClosureIntent c.own (t.intent place (hold_of t party past))

-- What a step does: nothing to the word and the closure; it begins the closure, where the word is 0; it ends its own, which runs; or it puts 2, where its own has ended.

abbrev Effect : {T : Type 0} → Option (PendingCall T) → ℕ → ℕ → Bool → Bool → Type 0
Effect pending w word begins ends =
    ((word ≡ w) × (begins ≡ false) × (ends ≡ false))
    ⊎ (((w ≡ 0) × (word ≡ 1) × (begins ≡ true) × (ends ≡ false))
    ⊎ (((word ≡ w) × (begins ≡ false) × (ends ≡ true) × MatchOption pending ⊥ (λ c. is_running c.own ≡ true))
    ⊎ ((word ≡ 2) × (begins ≡ false) × (ends ≡ false) × MatchOption pending ⊥ (λ c. 1 ≤ ends_in c.own))))

abbrev EffectOf : {T : Type 0} → Option (PendingCall T) → ℕ → Act T → Type 0
EffectOf pending w act = Effect pending w (word_after Word.State act w) (is_begin act) (is_end act)

event_effect :
    {T P : Type 0} (z : Arithmetic T) (t : Table T P) (parties : ℕ) → RunsOneClosure z t parties → (past : List (Event T)) (e : Event T) → IsPast z t parties (e ∷ past) →
    EffectOf (call_of e.party past) (word_in t past Word.State) e.act
event_effect z t parties h1 past e h2 = grind (arith, nat_tests, eqb-true, eqb-false)

-- a word that is 2 is left so
pub stays_complete :
    {T P : Type 0} (z : Arithmetic T) (t : Table T P) (parties : ℕ) → RunsOneClosure z t parties → (past : List (Event T)) (e : Event T) → IsPast z t parties (e ∷ past) →
    word_in t past Word.State ≡ 2 → word_in t (e ∷ past) Word.State ≡ 2
stays_complete z t parties h1 past e h2 h3 = grind (arith, nat_tests, eqb-true, eqb-false)

-- At every prefix.

-- the party whose exchange began the closure
abbrev pub runner_of : {T : Type 0} → List (Event T) → Option ℕ
runner_of [] = None
runner_of (e ∷ past) = cond (is_begin e.act) (Some e.party) (runner_of past)

-- no closure has begun; one has; or it has ended, and the word says so
abbrev pub IsState : ℕ → ℕ → ℕ → Type 0
IsState w begins ends = ((w ≡ 0) × (begins ≡ 0) × (ends ≡ 0)) ⊎ (((w ≡ 1) × (begins ≡ 1) × (ends ≤ 1)) ⊎ ((w ≡ 2) × (begins ≡ 1) × (ends ≡ 1)))

-- a party whose closure runs is the one that began, and nothing has ended
abbrev pub RunsAlone : {T : Type 0} → List (Event T) → Type 0
RunsAlone {T} past = (party : ℕ) (c : PendingCall T) → call_of party past ≡ Some c → is_running c.own ≡ true → (ends_in past ≡ 0) × (1 ≤ begins_in past) × (runner_of past ≡ Some party)

state_after :
    (w begins ends word : ℕ) (begun ended : Bool) → IsState w begins ends →
    ((word ≡ w) × (begun ≡ false) × (ended ≡ false))
    ⊎ (((w ≡ 0) × (word ≡ 1) × (begun ≡ true) × (ended ≡ false))
    ⊎ (((word ≡ w) × (begun ≡ false) × (ended ≡ true) × (ends ≡ 0) × (1 ≤ begins))
    ⊎ ((word ≡ 2) × (begun ≡ false) × (ended ≡ false) × (1 ≤ ends)))) →
    IsState word (cond begun 1 0 + begins) (cond ended 1 0 + ends)
state_after w begins ends word begun ended h1 h2 = grind (arith, nat_tests, eqb-true, eqb-false)

-- what the effect of an event is on the numbers, where the closure that ends runs alone
numbered :
    {T : Type 0} (past : List (Event T)) (party w word : ℕ) (begun ended : Bool) → RunsAlone past → (pending : Option (PendingCall T)) → call_of party past ≡ pending → Effect pending w word begun ended →
    ((word ≡ w) × (begun ≡ false) × (ended ≡ false))
    ⊎ (((w ≡ 0) × (word ≡ 1) × (begun ≡ true) × (ended ≡ false))
    ⊎ (((word ≡ w) × (begun ≡ false) × (ended ≡ true) × (ends_in past ≡ 0) × (1 ≤ begins_in past))
    ⊎ ((word ≡ 2) × (begun ≡ false) × (ended ≡ false) × (1 ≤ ends_in past))))
numbered past party w word begun ended h1 pending h2 h3 = grind (arith, nat_tests, eqb-true, eqb-false, own_among)

-- another party's event leaves a closure that runs alone
still_alone :
    {T : Type 0} (past : List (Event T)) (e : Event T) (party w word : ℕ) → IsState w (begins_in past) (ends_in past) → RunsAlone past → e.party ≢ party → (c : PendingCall T) → call_of party past ≡ Some c → is_running c.own ≡ true →
    (pending : Option (PendingCall T)) → call_of e.party past ≡ pending → Effect pending w word (is_begin e.act) (is_end e.act) → (ends_in (e ∷ past) ≡ 0) × (1 ≤ begins_in (e ∷ past)) × (runner_of (e ∷ past) ≡ Some party)
still_alone past e party w word h1 h2 h3 c h4 h5 pending h6 h7 = grind (arith, nat_tests, eqb-true, eqb-false)

-- and so does the party's own, where its closure goes on or has just begun
own_alone :
    {T : Type 0} (past : List (Event T)) (e : Event T) (party w word : ℕ) → IsState w (begins_in past) (ends_in past) → RunsAlone past → e.party ≡ party → (before : PendingCall T) → call_of party past ≡ Some before →
    cond (is_begin e.act) true (cond (is_end e.act) false (is_running before.own)) ≡ true →
    (pending : Option (PendingCall T)) → Effect pending w word (is_begin e.act) (is_end e.act) → (ends_in (e ∷ past) ≡ 0) × (1 ≤ begins_in (e ∷ past)) × (runner_of (e ∷ past) ≡ Some party)
own_alone past e party w word h1 h2 h3 before h4 h5 pending h6 = grind (arith, nat_tests, eqb-true, eqb-false)

pub record HasOneClosure {T P : Type 0} (t : Table T P) (past : List (Event T)) : Type 0 where
  pub state : IsState (word_in t past Word.State) (begins_in past) (ends_in past)
  pub alone : RunsAlone past

pub closure_prefix : {T P : Type 0} (z : Arithmetic T) (t : Table T P) (parties : ℕ) → RunsOneClosure z t parties → (past : List (Event T)) → IsPast z t parties past → HasOneClosure t past
closure_prefix z t parties one [] run = record { state = inl (one.opens, refl, refl); alone = λ party c called runs. absurd cc }
closure_prefix {T} z t parties one (e ∷ past) run = one_more (closure_prefix z t parties one past run.1)
  where
    effect : EffectOf (call_of e.party past) (word_in t past Word.State) e.act
    effect = event_effect z t parties one past e run

    one_more : HasOneClosure t past → HasOneClosure t (e ∷ past)
    one_more before =
        record {
          state = state_after _ _ _ _ (is_begin e.act) (is_end e.act) before.state (numbered past e.party _ _ (is_begin e.act) (is_end e.act) before.alone (call_of e.party past) refl effect);
          alone = λ party c called runs. by_call before party c runs (call_was past e party c called);
        }
      where
        by_call : HasOneClosure t past → (party : ℕ) (c : PendingCall T) → is_running c.own ≡ true → IsCallAfter past e party c → (ends_in (e ∷ past) ≡ 0) × (1 ≤ begins_in (e ∷ past)) × (runner_of (e ∷ past) ≡ Some party)
        by_call prefix party c runs (inl other) = still_alone past e party _ _ prefix.state prefix.alone other.0 c other.1 runs (call_of e.party past) refl effect
        by_call prefix party c runs (inr (inl begun)) = let no : is_running {T = T} [] ≡ true = subst (λ (own : List (Event T)). is_running own ≡ true) begun.1 runs in absurd cc
        by_call prefix party c runs (inr (inr on)) =
            own_alone past e party _ _ prefix.state prefix.alone on.0 on.1.0 on.1.1 (subst (λ (own : List (Event T)). is_running own ≡ true) on.1.2 runs) (call_of e.party past) effect

-- What the word and the numbers tell.

pub at_most_one : (w begins ends : ℕ) → IsState w begins ends → (begins ≤ 1) × (ends ≤ 1) × (ends ≤ begins)
at_most_one w begins ends h1 = grind (arith, nat_tests, eqb-true, eqb-false)

pub complete_ended : (w begins ends : ℕ) → IsState w begins ends → w ≡ 2 → ends ≡ 1
complete_ended w begins ends h1 h2 = grind (arith, nat_tests, eqb-true, eqb-false)

pub tells_state : {T P : Type 0} (t : Table T P) (past : List (Event T)) → IsState (word_in t past Word.State) (begins_in past) (ends_in past) → TellsState t past
tells_state t past h1 = grind (arith, nat_tests, eqb-true, eqb-false)

-- A call that has missed: its exchange of 0 failed, so a closure has begun.

abbrev pub is_miss : {T : Type 0} → Act T → Bool
is_miss (Act.Exchange Word.State zero to found false) = true
is_miss act = false

abbrev pub has_missed : {T : Type 0} → List (Event T) → Bool
has_missed [] = false
has_missed (e ∷ own) = cond (is_miss e.act) true (has_missed own)

missed_at : {T : Type 0} (act : Act T) (memory : Word → ℕ) → IsTold act memory → is_miss act ≡ true → memory Word.State ≢ 0
missed_at act memory h1 h2 = grind (arith, nat_tests, eqb-true, eqb-false)

some_begun : (w begins ends : ℕ) → IsState w begins ends → w ≢ 0 → 1 ≤ begins
some_begun w begins ends h1 h2 = grind (arith, nat_tests, eqb-true, eqb-false)

pub missed_since :
    {T P : Type 0} (z : Arithmetic T) (t : Table T P) (parties : ℕ) → RunsOneClosure z t parties → (past : List (Event T)) → IsPast z t parties past → (party : ℕ) (c : PendingCall T) → call_of party past ≡ Some c →
    has_missed c.own ≡ true → 1 ≤ begins_in past
missed_since z t parties one [] run party c called missed = absurd cc
missed_since {T} z t parties one (e ∷ past) run party c called missed = by_call (missed_since z t parties one past run.1) (call_was past e party c called)
  where
    by_test : (misses : Bool) → is_miss e.act ≡ misses → (own : List (Event T)) → (has_missed own ≡ true → 1 ≤ begins_in past) → cond misses true (has_missed own) ≡ true → 1 ≤ begins_in (e ∷ past)
    by_test true misses own rest missed =
        let prefix = closure_prefix z t parties one past run.1 in
        omega (arith, some_begun _ _ _ prefix.state (missed_at e.act (word_in t past) (tells_memory z t parties (e ∷ past) run) misses))
    by_test false misses own rest missed = omega (arith, rest missed)

    by_call : ((p : ℕ) (k : PendingCall T) → call_of p past ≡ Some k → has_missed k.own ≡ true → 1 ≤ begins_in past) → IsCallAfter past e party c → 1 ≤ begins_in (e ∷ past)
    by_call rest (inl other) = omega (arith, rest party c other.1 missed)
    by_call rest (inr (inl begun)) = let no : has_missed {T = T} [] ≡ true = subst (λ (own : List (Event T)). has_missed own ≡ true) begun.1 missed in absurd cc
    by_call rest (inr (inr on)) = by_test (is_miss e.act) refl on.1.0.own (rest party on.1.0 on.1.1) (subst (λ (own : List (Event T)). has_missed own ≡ true) on.1.2 missed)

-- a call whose closure runs has begun it
running_began : {T : Type 0} (own : List (Event T)) → is_running own ≡ true → (act : Act T) × (last_of is_begin own ≡ Some act)
running_began [] runs = absurd cc
running_began {T} (e ∷ own) runs = by_tests (is_begin e.act) (is_end e.act) (running_began own) runs
  where
    by_tests : (begun ended : Bool) → (is_running own ≡ true → (act : Act T) × (last_of is_begin own ≡ Some act)) → cond begun true (cond ended false (is_running own)) ≡ true → (act : Act T) × (cond begun (Some e.act) (last_of is_begin own) ≡ Some act)
    by_tests true ended rest runs = (e.act, refl)
    by_tests false true rest runs = absurd cc
    by_tests false false rest runs = rest runs

-- the closure that ends is the call's own, and was the first to begin
pub own_began :
    {T P : Type 0} (z : Arithmetic T) (t : Table T P) (parties party : ℕ) (past : List (Event T)) → IsPast z t parties past → (c : PendingCall T) → call_of party past ≡ Some c → is_running c.own ≡ true → begins_in past ≤ 1 →
    AtLast is_begin (λ before. begins_in before ≡ 0) party past
own_began z t parties party past run c called runs most =
    let begun = running_began c.own runs in
    at_last_maps is_begin (IsToldOf z t parties is_begin begun.0 past) (λ before. begins_in before ≡ 0) (λ before told. omega (arith, told.2, most)) party past (own_at_last z t parties is_begin party begun.0 past run c called begun.1)
