-- No count is lost: whoever unblocks the lock owes a counter step until it has made it.
use Rattle.model_rw_writer.proofs.Names.{◌≡◌, ◌≢◌, ℕ, ◌+◌, ◌%◌, ◌^◌, ◌<◌, ◌==◌, refl, sym, ◌∙◌, ap, subst, Bool, true, false, cond, ◌&&◌, ◌||◌, List, [], ◌∷◌, Option, Some, ◌⊎◌, inl, inr, arith, eqb-true, eqb-false, eq-eqb, nat_tests, eqb_tells, call_of_same, call_of_other, by_move, carried_goes_on, carried_stage, fault_at_none, longer, not, WaitAction, Word, Call, Act, Event, Input, Then, HoldKind, Patience, After, Arithmetic, carried_out, value_told, outcome_of, place_after, PendingCall, call_of, call_after, call_going_on, Hold, holds_of, hold_of, word_in, word_after, event, latest_outcome, is_beginning, acts_in, is_step, Move, step_at, stage_of, next_stage, IsPast, Leaver, RwWriterPlace, is_blocked, rw_writer_table, rw_writer_answered, is_marked_after, CountsHolds, blocks, is_blocked_after, is_answer, adds_count, owes_count, loads_count, counts_since_load, StandsWith, NoCountIsLost, PaysNext, CounterCountsAdds}
use Rattle.model_rw_writer.proofs.BoolLaws.{clash, neither}
use Rattle.model_rw_writer.proofs.LookLaws.{HoldsOn}
use Rattle.model_rw_writer.proofs.PlaceLaws.{AtRwWriter, here}
use Rattle.model_rw_writer.proofs.StageLaws.{same_call, same_place, IsAt, fact_here, begins_none, answered_at, chosen_at, stepped_at}
use Rattle.model_rw_writer.proofs.Laws.{writer_lock_word}

-- What the word says: the lock is blocked exactly where it is odd and above 1.

word_blocks : (w : ℕ) (holds : List Hold) (marked : Bool) → CountsHolds w holds marked → blocks holds marked ≡ is_blocked w
word_blocks w holds marked h1 = grind (arith, nat_tests, eqb-true, eqb-false)

pub blocked_at : {T : Type 0} (z : Arithmetic T) (parties : ℕ) (past : List (Event T)) → IsPast z rw_writer_table parties past → is_blocked_after past ≡ is_blocked (word_in rw_writer_table past Word.State)
blocked_at z parties past run = word_blocks (word_in rw_writer_table past Word.State) (holds_of rw_writer_table past) (is_marked_after past) (writer_lock_word z parties past run).counts

-- A step that ends that the lock is blocked leads to the counter.

pub record LeadsToCount {T : Type 0} (act : Act T) (a : After T RwWriterPlace) : Type 0 where
  pub who : Leaver
  pub counts : a ≡ After.At (RwWriterPlace.Count who)
  pub is_before : adds_count act ≡ false

ends_blocked :
    {T : Type 0} (place : RwWriterPlace) (c : PendingCall T) (hold : Option HoldKind) (memory : Word → ℕ) → AtRwWriter place c hold → memory Word.State < 2 ^ 64 → is_blocked (memory Word.State) ≡ true →
    is_blocked (word_after Word.State (step_at {T = T} rw_writer_table place hold memory).act (memory Word.State)) ≡ false →
    LeadsToCount (step_at {T = T} rw_writer_table place hold memory).act (rw_writer_table.after place (value_told {T = T} (carried_out (rw_writer_table.intent place hold) memory)))
ends_blocked place c hold memory h1 h2 h3 h4 = grind (arith, nat_tests, eqb-true, eqb-false)

-- the word fits its type
fits_word : {T : Type 0} (z : Arithmetic T) (parties : ℕ) (past : List (Event T)) → IsPast z rw_writer_table parties past → word_in rw_writer_table past Word.State < 2 ^ 64
fits_word {T} z parties past run = by_counts (word_in rw_writer_table past Word.State) (is_marked_after past) (writer_lock_word z parties past run).counts
  where
    by_counts : (w : ℕ) (marked : Bool) → CountsHolds w (holds_of rw_writer_table past) marked → w < 2 ^ 64
    by_counts w true (inl read) = omega (arith, read.counts, read.fits)
    by_counts w false (inl read) = omega (arith, read.counts, read.fits)
    by_counts w marked (inr written) = omega (arith, written.is_full)

-- Who owes a counter step is about to make it.

abbrev IsCounting : RwWriterPlace → Type 0
IsCounting (RwWriterPlace.Count who) = Unit {0}
IsCounting place = ⊥

abbrev OwesAt : {T : Type 0} → Option (PendingCall T) → Type 0
OwesAt {T} pending = IsAt (λ (place : RwWriterPlace) (own : List (Event T)). IsCounting place) pending

answered_counting : (place : RwWriterPlace) (action : WaitAction) → IsCounting place → IsCounting (rw_writer_answered place action)
answered_counting place action h1 = grind (arith, nat_tests, eqb-true, eqb-false)

-- a step that leads to the counter
stepped_owes :
    {T : Type 0} (r : ℕ) (c : PendingCall T) (place : RwWriterPlace) (hold : Option HoldKind) (memory : Word → ℕ) → stage_of rw_writer_table c ≡ Some place →
    LeadsToCount (step_at {T = T} rw_writer_table place hold memory).act (rw_writer_table.after place (value_told {T = T} (carried_out (rw_writer_table.intent place hold) memory))) →
    OwesAt (call_after (step_at rw_writer_table place hold memory).outcome (event r (step_at rw_writer_table place hold memory).act (step_at rw_writer_table place hold memory).outcome) (Some c))
stepped_owes r c place hold memory h1 h2 = grind (arith, nat_tests, eqb-true, eqb-false, stepped_at)

-- at the counter's place the step is the add
count_adds : (T : Type 0) (place : RwWriterPlace) (hold : Option HoldKind) (memory : Word → ℕ) → IsCounting place → adds_count (step_at {T = T} rw_writer_table place hold memory).act ≡ true
count_adds T place hold memory h1 = grind (arith, nat_tests, eqb-true, eqb-false)

-- so it is of a call that owes
owed_adds :
    {T : Type 0} (c : PendingCall T) (place : RwWriterPlace) (hold : Option HoldKind) (memory : Word → ℕ) → stage_of rw_writer_table c ≡ Some place → OwesAt (Some c) →
    adds_count (step_at {T = T} rw_writer_table place hold memory).act ≡ true
owed_adds {T} c place hold memory stage owes = count_adds T place hold memory (fact_here (λ (at : RwWriterPlace) (own : List (Event T)). IsCounting at) c place stage owes)

-- what is owed after an event of the party itself: where it neither answered nor counted, and owed before or ended that the lock was blocked
abbrev Ended : {T : Type 0} → ℕ → Act T → Type 0
Ended w act = (is_blocked w ≡ true) × (is_blocked (word_after Word.State act w) ≡ false)

own_owes :
    {T : Type 0} (z : Arithmetic T) (parties : ℕ) (past : List (Event T)) (e : Event T) → IsPast z rw_writer_table parties (e ∷ past) → (OwesAt (call_of e.party past)) ⊎ Ended (word_in rw_writer_table past Word.State) e.act →
    adds_count e.act ≡ false → OwesAt (call_after e.then e (call_of e.party past))
own_owes {T} z parties past e run why quiet =
    by_move rw_writer_table (call_of e.party past) (hold_of rw_writer_table e.party past) (word_in rw_writer_table past)
    (λ (k : Option (PendingCall T)) (x : Move T). OwesAt k ⊎ Ended (word_in rw_writer_table past Word.State) x.act → adds_count x.act ≡ false → OwesAt (call_after x.outcome (event e.party x.act x.outcome) k))
    run.0.0 (record { act = e.act; outcome = e.then })
    (λ call is was no_add. begun call is was)
    (λ action _ was no_add. answered action was)
    (λ choice _ was no_add. chosen choice was)
    (λ c place _ called stage was no_add. stepped c place called stage was no_add)
    run.0.1.moved why quiet
  where
    w : ℕ
    w = word_in rw_writer_table past Word.State

    begun : (call : Call T) → run.0.0 ≡ Input.Begin call → OwesAt (call_of e.party past) ⊎ Ended w (Act.Begun call) → OwesAt (call_going_on (Act.Begun call) (event e.party (Act.Begun call) Then.GoesOn) (call_of e.party past))
    begun call is (inl owes) = absurd (begins_none (call_of e.party past) owes.call (hold_of rw_writer_table e.party past) call run.0.0 owes.under_way (fault_at_none rw_writer_table parties past e.party run.0.0 run.0.1.allowed) is)
    begun call is (inr ended) = clash (is_blocked w) ended.0 ended.1

    answered : (action : WaitAction) → OwesAt (call_of e.party past) ⊎ Ended {T = T} w (Act.Answered action) → OwesAt (call_going_on (Act.Answered action) (event e.party (Act.Answered action) Then.GoesOn) (call_of e.party past))
    answered action (inl owes) = answered_at (λ (place : RwWriterPlace) (own : List (Event T)). IsCounting place) e.party action (call_of e.party past) (λ place own d counting. answered_counting place action counting) owes
    answered action (inr ended) = clash (is_blocked w) ended.0 ended.1

    chosen : (choice : Option T) → OwesAt (call_of e.party past) ⊎ Ended w (Act.Chosen choice) → OwesAt (call_going_on (Act.Chosen choice) (event e.party (Act.Chosen choice) Then.GoesOn) (call_of e.party past))
    chosen choice (inl owes) = chosen_at (λ (place : RwWriterPlace) (own : List (Event T)). IsCounting place) e.party choice (call_of e.party past) (λ place own d counting. counting) owes
    chosen choice (inr ended) = clash (is_blocked w) ended.0 ended.1

    stepped : (c : PendingCall T) (place : RwWriterPlace) → call_of e.party past ≡ Some c → stage_of rw_writer_table c ≡ Some place →
        OwesAt (Some c) ⊎ Ended {T = T} w (step_at {T = T} rw_writer_table place (hold_of rw_writer_table e.party past) (word_in rw_writer_table past)).act →
        adds_count (step_at {T = T} rw_writer_table place (hold_of rw_writer_table e.party past) (word_in rw_writer_table past)).act ≡ false →
        OwesAt (call_after (step_at rw_writer_table place (hold_of rw_writer_table e.party past) (word_in rw_writer_table past)).outcome (event e.party (step_at rw_writer_table place (hold_of rw_writer_table e.party past) (word_in rw_writer_table past)).act (step_at rw_writer_table place (hold_of rw_writer_table e.party past) (word_in rw_writer_table past)).outcome) (Some c))
    stepped c place called stage (inl owes) no_add = clash _ (owed_adds c place (hold_of rw_writer_table e.party past) (word_in rw_writer_table past) stage owes) no_add
    stepped c place called stage (inr ended) no_add =
        let at = here z parties past run.1 e.party c place called stage in
        stepped_owes e.party c place (hold_of rw_writer_table e.party past) (word_in rw_writer_table past) stage (ends_blocked place c (hold_of rw_writer_table e.party past) (word_in rw_writer_table past) at (fits_word z parties past run.1) ended.0 ended.1)

which : (a b owed : Bool) → cond (a && not b) true owed ≡ true → ((a ≡ true) × (b ≡ false)) ⊎ (owed ≡ true)
which a b owed h1 = grind (arith, nat_tests, eqb-true, eqb-false)

pub owes_at : {T : Type 0} (z : Arithmetic T) (parties : ℕ) (past : List (Event T)) → IsPast z rw_writer_table parties past → (q : ℕ) → owes_count q past ≡ true → OwesAt (call_of q past)
owes_at z parties [] run q owes = absurd cc
owes_at {T} z parties (e ∷ past) run q owes = by_party (owes_at z parties past run.1) (eqb_tells e.party q)
  where
    Before : Type 0
    Before = (p : ℕ) → owes_count p past ≡ true → OwesAt (call_of p past)

    after_own : Bool
    after_own = cond (is_answer e.then || adds_count e.act) false (cond (is_blocked_after past && not (is_blocked_after (e ∷ past))) true (owes_count q past))

    mine : Before → e.party ≡ q → after_own ≡ true → OwesAt (call_of q (e ∷ past))
    mine before is owed =
        let so = neither (is_answer e.then) (adds_count e.act) (cond (is_blocked_after past && not (is_blocked_after (e ∷ past))) true (owes_count q past)) owed in
        let after : OwesAt (call_of e.party (e ∷ past)) = subst (λ (k : Option (PendingCall T)). OwesAt k) (sym (call_of_same e.party e.act e.then past)) (own_owes z parties past e run (why before is (which (is_blocked_after past) (is_blocked_after (e ∷ past)) (owes_count q past) so.1)) so.0) in
        subst (λ p. OwesAt (call_of p (e ∷ past))) is after
      where
        why : Before → e.party ≡ q → ((is_blocked_after past ≡ true) × (is_blocked_after (e ∷ past) ≡ false)) ⊎ (owes_count q past ≡ true) → OwesAt (call_of e.party past) ⊎ Ended (word_in rw_writer_table past Word.State) e.act
        why earlier same (inl ended) = inr (sym (blocked_at z parties past run.1) ∙ ended.0, sym (blocked_at z parties (e ∷ past) run) ∙ ended.1)
        why earlier same (inr owed_before) = inl (subst (λ p. OwesAt (call_of p past)) (sym same) (earlier q owed_before))

    by_party : Before → (((e.party == q) ≡ true) × (e.party ≡ q)) ⊎ (((e.party == q) ≡ false) × (e.party ≢ q)) → OwesAt (call_of q (e ∷ past))
    by_party before (inl is) = mine before is.1 (subst (λ b. cond b after_own (owes_count q past) ≡ true) is.0 owes)
    by_party before (inr other) =
        let owed : owes_count q past ≡ true = subst (λ b. cond b after_own (owes_count q past) ≡ true) other.0 owes in
        subst (λ (k : Option (PendingCall T)). OwesAt k) (sym (call_of_other e.party q e.act e.then past (λ same. other.1 (sym same)))) (before q owed)

-- What an event does to the counter.

step_counts :
    (T : Type 0) (place : RwWriterPlace) (hold : Option HoldKind) (memory : Word → ℕ) →
    word_after Word.Counter (step_at {T = T} rw_writer_table place hold memory).act (memory Word.Counter) ≡ cond (adds_count (step_at {T = T} rw_writer_table place hold memory).act) ((memory Word.Counter + 1) % 2 ^ 64) (memory Word.Counter)
step_counts T place hold memory = grind (arith, nat_tests, eqb-true, eqb-false)

event_counts :
    {T : Type 0} (z : Arithmetic T) (parties : ℕ) (past : List (Event T)) (e : Event T) → IsPast z rw_writer_table parties (e ∷ past) →
    word_in rw_writer_table (e ∷ past) Word.Counter ≡ cond (adds_count e.act) ((word_in rw_writer_table past Word.Counter + 1) % 2 ^ 64) (word_in rw_writer_table past Word.Counter)
event_counts {T} z parties past e run =
    by_move rw_writer_table (call_of e.party past) (hold_of rw_writer_table e.party past) (word_in rw_writer_table past)
    (λ (k : Option (PendingCall T)) (x : Move T).
    word_after Word.Counter x.act (word_in rw_writer_table past Word.Counter) ≡ cond (adds_count x.act) ((word_in rw_writer_table past Word.Counter + 1) % 2 ^ 64) (word_in rw_writer_table past Word.Counter))
    run.0.0 (record { act = e.act; outcome = e.then }) (λ call _. refl) (λ action _. refl) (λ choice _. refl)
    (λ c place _ called stage. step_counts T place (hold_of rw_writer_table e.party past) (word_in rw_writer_table past))
    run.0.1.moved

fits_counter : {T : Type 0} (z : Arithmetic T) (parties : ℕ) (past : List (Event T)) → IsPast z rw_writer_table parties past → word_in rw_writer_table past Word.Counter < 2 ^ 64
fits_counter z parties [] run = omega arith
fits_counter {T} z parties (e ∷ past) run = rw (event_counts z parties past e run) (by_test (adds_count e.act) (fits_counter z parties past run.1))
  where
    by_test : (b : Bool) → word_in rw_writer_table past Word.Counter < 2 ^ 64 → cond b ((word_in rw_writer_table past Word.Counter + 1) % 2 ^ 64) (word_in rw_writer_table past Word.Counter) < 2 ^ 64
    by_test true fits = omega arith
    by_test false fits = fits

pub counter_counts_adds : {T : Type 0} (z : Arithmetic T) (parties : ℕ) (past : List (Event T)) → IsPast z rw_writer_table parties past → CounterCountsAdds past
counter_counts_adds z parties [] run = refl
counter_counts_adds {T} z parties (e ∷ past) run = rw (event_counts z parties past e run) (by_test (adds_count e.act) (counter_counts_adds z parties past run.1))
  where
    by_test : (b : Bool) → CounterCountsAdds past → cond b ((word_in rw_writer_table past Word.Counter + 1) % 2 ^ 64) (word_in rw_writer_table past Word.Counter) ≡ (cond b 1 0 + acts_in adds_count past) % 2 ^ 64
    by_test true counts = omega (arith, counts)
    by_test false counts = omega (arith, counts)

-- How a writer comes to stand: it loads the counter, and looks.

abbrev pub is_last : RwWriterPlace → Bool
is_last (RwWriterPlace.LastLook count patience) = true
is_last place = false

-- it neither stands nor is at its last look
abbrev pub IsPlain : {T : Type 0} → After T RwWriterPlace → Type 0
IsPlain (After.At place) = is_last place ≡ false
IsPlain (After.Waits place seen) = ⊥
IsPlain (After.Chooses place old) = ⊥
IsPlain (After.Ends answer) = Unit {0}

plain : (T : Type 0) → HoldsOn {T = T} IsPlain
plain T = record { looks = λ _. refl; loads = λ _. refl; marks = λ _ _ _. refl; unmarks = λ _ _. refl; enters = λ _ _. refl; leaves = tt }

-- the load of the counter, and the look at which it stands
pub record LoadsCount {T : Type 0} (counter : ℕ) (act : Act T) (a : After T RwWriterPlace) : Type 0 where
  pub patience : Patience
  pub leads : a ≡ After.At (RwWriterPlace.LastLook counter patience)
  pub loads : act ≡ Act.Load Word.Counter counter

pub record StandsNow {T : Type 0} (w : ℕ) (place : RwWriterPlace) (act : Act T) (a : After T RwWriterPlace) : Type 0 where
  pub count : ℕ
  pub patience : Patience
  pub from : place ≡ RwWriterPlace.LastLook count patience
  pub leads : a ≡ After.Waits (RwWriterPlace.WriteLook patience) count
  pub looks : act ≡ Act.Load Word.State w
  pub blocked : is_blocked w ≡ true

pub write_step :
    {T : Type 0} (place : RwWriterPlace) (c : PendingCall T) (hold : Option HoldKind) (memory : Word → ℕ) → AtRwWriter place c hold → c.call ≡ Call.WriteLock →
    IsPlain {T = T} (rw_writer_table.after place (value_told {T = T} (carried_out (rw_writer_table.intent place hold) memory)))
    ⊎ (LoadsCount (memory Word.Counter) (step_at {T = T} rw_writer_table place hold memory).act (rw_writer_table.after place (value_told {T = T} (carried_out (rw_writer_table.intent place hold) memory)))
    ⊎ StandsNow (memory Word.State) place (step_at {T = T} rw_writer_table place hold memory).act (rw_writer_table.after place (value_told {T = T} (carried_out (rw_writer_table.intent place hold) memory))))
write_step place c hold memory h1 h2 = grind (arith, nat_tests, eqb-true, eqb-false)

plain_stands : {T : Type 0} (count : ℕ) (a : After T RwWriterPlace) → IsPlain a → outcome_of a ≡ Then.Waits count → ⊥
plain_stands count a h1 h2 = grind (arith, nat_tests, eqb-true, eqb-false)

-- While a writer has loaded the counter for its stand, the counter is what it loaded and the adds since.

pub record HasLoaded {T : Type 0} (count : ℕ) (pending : Option (PendingCall T)) : Type 0 where
  pub call : PendingCall T
  pub under_way : pending ≡ Some call
  pub writes : call.call ≡ Call.WriteLock
  pub loaded : ((patience : Patience) × (stage_of rw_writer_table call ≡ Some (RwWriterPlace.LastLook count patience))) ⊎ (latest_outcome call.own ≡ Then.Waits count)

IsSum : ℕ → ℕ → ℕ → Type 0
IsSum counter count since = counter ≡ (count + since) % 2 ^ 64

sum_later : (counter count since : ℕ) (adds : Bool) → IsSum counter count since → IsSum (cond adds ((counter + 1) % 2 ^ 64) counter) count (cond adds 1 0 + since)
unfolding IsSum
sum_later counter count since true is = omega (arith, is)
sum_later counter count since false is = omega (arith, is)

sum_of : (counter count since : ℕ) → IsSum counter count since → counter ≡ (count + since) % 2 ^ 64
unfolding IsSum
sum_of counter count since is = is

sum_first : (counter : ℕ) → counter < 2 ^ 64 → IsSum counter counter 0
unfolding IsSum
sum_first counter fits = omega (arith, fits)

-- the adds since the load, after an event of the party
abbrev since_own : {T : Type 0} → Act T → ℕ → ℕ
since_own act since = cond (loads_count act) 0 (cond (adds_count act) 1 0 + since)

-- the counter after an act
abbrev counter_by : {T : Type 0} → Act T → ℕ → ℕ
counter_by act counter = cond (adds_count act) ((counter + 1) % 2 ^ 64) counter

-- an answer of a closure leads to no last look

begun_none : {T : Type 0} (count : ℕ) (call : Call T) → HasLoaded count (Some (record { call = call; own = [] })) → ⊥
begun_none count call h1 = grind (arith, nat_tests, eqb-true, eqb-false)

answered_before :
    {T : Type 0} (r count : ℕ) (action : WaitAction) (pending : Option (PendingCall T)) → HasLoaded count (call_going_on (Act.Answered action) (event r (Act.Answered action) Then.GoesOn) pending) → HasLoaded count pending
answered_before r count action pending h1 = grind (arith, nat_tests, eqb-true, eqb-false)

chosen_before :
    {T : Type 0} (r count : ℕ) (choice : Option T) (pending : Option (PendingCall T)) → HasLoaded count (call_going_on (Act.Chosen choice) (event r (Act.Chosen choice) Then.GoesOn) pending) → HasLoaded count pending
chosen_before r count choice pending h1 = grind (arith, nat_tests, eqb-true, eqb-false)

-- of a step after which the writer has loaded: whose call it is, and where it led
abbrev Led : {T : Type 0} → ℕ → PendingCall T → After T RwWriterPlace → Type 0
Led count c a = (c.call ≡ Call.WriteLock) × (((patience : Patience) × (place_after a ≡ Some (RwWriterPlace.LastLook count patience))) ⊎ (outcome_of a ≡ Then.Waits count))

stepped_before :
    {T : Type 0} (r count : ℕ) (c : PendingCall T) (place : RwWriterPlace) (hold : Option HoldKind) (memory : Word → ℕ) → stage_of rw_writer_table c ≡ Some place →
    HasLoaded count (call_after (step_at {T = T} rw_writer_table place hold memory).outcome (event r (step_at {T = T} rw_writer_table place hold memory).act (step_at {T = T} rw_writer_table place hold memory).outcome) (Some c)) →
    Led count c (rw_writer_table.after place (value_told {T = T} (carried_out (rw_writer_table.intent place hold) memory)))
stepped_before {T} r count c place hold memory stage has = by_after (rw_writer_table.after place (value_told act)) refl has
  where
    act : Act T
    act = (step_at {T = T} rw_writer_table place hold memory).act

    on : (a : After T RwWriterPlace) → rw_writer_table.after place (value_told act) ≡ a → HasLoaded count (call_going_on act (event r act (outcome_of a)) (Some c)) → Led count c a
    on a is loaded = by_loaded loaded.loaded
      where
        grown : PendingCall T
        grown = record { call = c.call; own = event r act (outcome_of a) ∷ c.own }

        same : grown ≡ loaded.call
        same = same_call grown loaded.call (sym (carried_goes_on (rw_writer_table.intent place hold) memory (event r act (outcome_of a)) c) ∙ loaded.under_way)

        writes : c.call ≡ Call.WriteLock
        writes = ap (λ (k : PendingCall T). k.call) same ∙ loaded.writes

        by_loaded : ((patience : Patience) × (stage_of rw_writer_table loaded.call ≡ Some (RwWriterPlace.LastLook count patience))) ⊎ (latest_outcome loaded.call.own ≡ Then.Waits count) → Led count c a
        by_loaded (inl last) =
            let leads : next_stage rw_writer_table act (stage_of rw_writer_table c) ≡ place_after a =
            ap (next_stage rw_writer_table act) stage ∙ carried_stage rw_writer_table place (rw_writer_table.intent place hold) memory ∙ ap place_after is in
            (writes, inl (last.0, sym leads ∙ ap (λ (k : PendingCall T). stage_of rw_writer_table k) same ∙ last.1))
        by_loaded (inr waits) = (writes, inr (ap (λ (k : PendingCall T). latest_outcome k.own) same ∙ waits))

    by_after : (a : After T RwWriterPlace) → rw_writer_table.after place (value_told act) ≡ a → HasLoaded count (call_after (outcome_of a) (event r act (outcome_of a)) (Some c)) → Led count c a
    by_after (After.At next) is loaded = on (After.At next) is loaded
    by_after (After.Waits next seen) is loaded = on (After.Waits next seen) is loaded
    by_after (After.Chooses next old) is loaded = on (After.Chooses next old) is loaded
    by_after (After.Ends answer) is loaded = let nothing = loaded.under_way in absurd cc

not_plain : {T : Type 0} (A : Type 0) (count : ℕ) (a : After T RwWriterPlace) → IsPlain a → ((patience : Patience) × (place_after a ≡ Some (RwWriterPlace.LastLook count patience))) ⊎ (outcome_of a ≡ Then.Waits count) → A
not_plain A count a h1 h2 = grind (arith, nat_tests, eqb-true, eqb-false)

-- a load of the counter begins the sum anew; the last look adds nothing

first_sum : {T : Type 0} (counter count since : ℕ) (act : Act T) (a : After T RwWriterPlace) → LoadsCount counter act a → counter < 2 ^ 64 →
    ((patience : Patience) × (place_after a ≡ Some (RwWriterPlace.LastLook count patience))) ⊎ (outcome_of a ≡ Then.Waits count) → IsSum (counter_by act counter) count (since_own act since)
first_sum {T} counter count since act a loads fits led = subst (λ (x : Act T). IsSum (counter_by x counter) count (since_own x since)) (sym loads.loads) (by_led led)
  where
    count_is : (p q : Patience) (n m : ℕ) → RwWriterPlace.LastLook n p ≡ RwWriterPlace.LastLook m q → n ≡ m
    count_is p q n m is = cc

    by_led : ((patience : Patience) × (place_after a ≡ Some (RwWriterPlace.LastLook count patience))) ⊎ (outcome_of a ≡ Then.Waits count) → IsSum counter count 0
    by_led (inl last) =
        let at : Some (RwWriterPlace.LastLook counter loads.patience) ≡ Some (RwWriterPlace.LastLook count last.0) = sym (ap place_after loads.leads) ∙ last.1 in
        let same : counter ≡ count = count_is loads.patience last.0 counter count (same_place (RwWriterPlace.LastLook counter loads.patience) (RwWriterPlace.LastLook count last.0) at) in
        subst (λ n. IsSum counter n 0) same (sum_first counter fits)
    by_led (inr waits) = let no : ◌≡◌ {A = Then T} Then.GoesOn (Then.Waits count) = sym (ap outcome_of loads.leads) ∙ waits in absurd cc

same_sum :
    {T : Type 0} (counter count since w : ℕ) (c : PendingCall T) (place : RwWriterPlace) (act : Act T) (a : After T RwWriterPlace) → StandsNow w place act a → c.call ≡ Call.WriteLock → stage_of rw_writer_table c ≡ Some place →
    (HasLoaded count (Some c) → IsSum counter count since) → ((patience : Patience) × (place_after a ≡ Some (RwWriterPlace.LastLook count patience))) ⊎ (outcome_of a ≡ Then.Waits count) → IsSum (counter_by act counter) count (since_own act since)
same_sum counter count since w c place act a h1 h2 h3 h4 h5 = grind (arith, nat_tests, eqb-true, eqb-false)

own_sum :
    {T : Type 0} (z : Arithmetic T) (parties count since : ℕ) (past : List (Event T)) (e : Event T) → IsPast z rw_writer_table parties (e ∷ past) → HasLoaded count (call_after e.then e (call_of e.party past)) →
    (HasLoaded count (call_of e.party past) → IsSum (word_in rw_writer_table past Word.Counter) count since) → IsSum (counter_by e.act (word_in rw_writer_table past Word.Counter)) count (since_own e.act since)
own_sum {T} z parties count since past e run has before =
    by_move rw_writer_table (call_of e.party past) (hold_of rw_writer_table e.party past) (word_in rw_writer_table past)
    (λ (k : Option (PendingCall T)) (x : Move T).
    HasLoaded count (call_after x.outcome (event e.party x.act x.outcome) k) → (HasLoaded count k → IsSum counter count since) → IsSum (counter_by x.act counter) count (since_own x.act since))
    run.0.0 (record { act = e.act; outcome = e.then })
    (λ call _ loaded was. absurd (begun_none count call loaded))
    (λ action _ loaded was. sum_later counter count since false (was (answered_before e.party count action (call_of e.party past) loaded)))
    (λ choice _ loaded was. sum_later counter count since false (was (chosen_before e.party count choice (call_of e.party past) loaded)))
    (λ c place _ called stage loaded was. stepped c place called stage was (stepped_before e.party count c place (hold_of rw_writer_table e.party past) (word_in rw_writer_table past) stage loaded))
    run.0.1.moved has before
  where
    counter : ℕ
    counter = word_in rw_writer_table past Word.Counter

    stepped : (c : PendingCall T) (place : RwWriterPlace) → call_of e.party past ≡ Some c → stage_of rw_writer_table c ≡ Some place → (HasLoaded count (Some c) → IsSum counter count since) →
        Led count c (rw_writer_table.after place (value_told {T = T} (carried_out (rw_writer_table.intent place (hold_of rw_writer_table e.party past)) (word_in rw_writer_table past)))) →
        IsSum (counter_by (step_at {T = T} rw_writer_table place (hold_of rw_writer_table e.party past) (word_in rw_writer_table past)).act counter) count (since_own (step_at {T = T} rw_writer_table place (hold_of rw_writer_table e.party past) (word_in rw_writer_table past)).act since)
    stepped c place called stage was led = by_step (write_step place c (hold_of rw_writer_table e.party past) (word_in rw_writer_table past) (here z parties past run.1 e.party c place called stage) led.0)
      where
        act : Act T
        act = (step_at {T = T} rw_writer_table place (hold_of rw_writer_table e.party past) (word_in rw_writer_table past)).act

        a : After T RwWriterPlace
        a = rw_writer_table.after place (value_told {T = T} (carried_out (rw_writer_table.intent place (hold_of rw_writer_table e.party past)) (word_in rw_writer_table past)))

        by_step : IsPlain a ⊎ (LoadsCount counter act a ⊎ StandsNow (word_in rw_writer_table past Word.State) place act a) → IsSum (counter_by act counter) count (since_own act since)
        by_step (inl plain) = not_plain _ count a plain led.1
        by_step (inr (inl loads)) = first_sum counter count since act a loads (fits_counter z parties past run.1) led.1
        by_step (inr (inr stands)) = same_sum counter count since (word_in rw_writer_table past Word.State) c place act a stands led.0 stage was led.1

loaded_sum :
    {T : Type 0} (z : Arithmetic T) (parties : ℕ) (past : List (Event T)) → IsPast z rw_writer_table parties past → (party count : ℕ) → HasLoaded count (call_of party past) →
    IsSum (word_in rw_writer_table past Word.Counter) count (counts_since_load party past)
loaded_sum z parties [] run party count has = let nothing = has.under_way in absurd cc
loaded_sum {T} z parties (e ∷ past) run party count has =
    rw (event_counts z parties past e run) (by_party (loaded_sum z parties past run.1 party count) (eqb_tells e.party party))
  where
    Goal : Bool → Type 0
    Goal b = IsSum (counter_by e.act (word_in rw_writer_table past Word.Counter)) count (cond (b && loads_count e.act) 0 (cond (adds_count e.act) 1 0 + counts_since_load party past))

    by_party : (HasLoaded count (call_of party past) → IsSum (word_in rw_writer_table past Word.Counter) count (counts_since_load party past)) →
        (((e.party == party) ≡ true) × (e.party ≡ party)) ⊎ (((e.party == party) ≡ false) × (e.party ≢ party)) → Goal (e.party == party)
    by_party before (inl mine) =
        let has_own : HasLoaded count (call_of e.party (e ∷ past)) = subst (λ q. HasLoaded count (call_of q (e ∷ past))) (sym mine.1) has in
        let later : HasLoaded count (call_after e.then e (call_of e.party past)) = subst (λ (k : Option (PendingCall T)). HasLoaded count k) (call_of_same e.party e.act e.then past) has_own in
        let was : HasLoaded count (call_of e.party past) → IsSum (word_in rw_writer_table past Word.Counter) count (counts_since_load party past) = λ loaded. before (subst (λ q. HasLoaded count (call_of q past)) mine.1 loaded) in
        subst Goal (sym mine.0) (own_sum z parties count (counts_since_load party past) past e run later was)
    by_party before (inr other) =
        let earlier : HasLoaded count (call_of party past) = subst (λ (k : Option (PendingCall T)). HasLoaded count k) (call_of_other e.party party e.act e.then past (λ same. other.1 (sym same))) has in
        subst Goal (sym other.0) (sum_later (word_in rw_writer_table past Word.Counter) count (counts_since_load party past) (adds_count e.act) (before earlier))

-- While a writer stands, the lock is blocked, or some party owes a counter step, or an add came on the counter since its load.

abbrev IsHeard : {T : Type 0} → ℕ → List (Event T) → Type 0
IsHeard party past = (is_blocked (word_in rw_writer_table past Word.State) ≡ true) ⊎ (((q : ℕ) × (owes_count q past ≡ true)) ⊎ (0 < counts_since_load party past))

-- the writer stood now: its last look saw a blocked lock
own_stands :
    {T : Type 0} (z : Arithmetic T) (parties count : ℕ) (past : List (Event T)) (e : Event T) → IsPast z rw_writer_table parties (e ∷ past) → (c : PendingCall T) → call_after e.then e (call_of e.party past) ≡ Some c → c.call ≡ Call.WriteLock →
    latest_outcome c.own ≡ Then.Waits count → is_blocked (word_in rw_writer_table (e ∷ past) Word.State) ≡ true
own_stands {T} z parties count past e run c is writes waits =
    by_move rw_writer_table (call_of e.party past) (hold_of rw_writer_table e.party past) (word_in rw_writer_table past)
    (λ (k : Option (PendingCall T)) (x : Move T). HasLoaded count (call_after x.outcome (event e.party x.act x.outcome) k) → x.outcome ≡ Then.Waits count → is_blocked (word_after Word.State x.act w) ≡ true)
    run.0.0 (record { act = e.act; outcome = e.then }) (λ call _ has stands. absurd cc) (λ action _ has stands. absurd cc) (λ choice _ has stands. absurd cc)
    (λ d place _ called stage has stands. stepped d place called stage (stepped_before e.party count d place (hold_of rw_writer_table e.party past) (word_in rw_writer_table past) stage has) stands)
    run.0.1.moved (record { call = c; under_way = is; writes = writes; loaded = inr waits }) (outcome_is (longer e.then e (call_of e.party past) c is))
  where
    w : ℕ
    w = word_in rw_writer_table past Word.State

    outcome_is : (c.own ≡ []) ⊎ ((own : List (Event T)) × (call_of e.party past ≡ Some (record { call = c.call; own = own })) × (c.own ≡ e ∷ own) × (is_beginning e.act ≡ false)) → e.then ≡ Then.Waits count
    outcome_is (inl nothing) = let no : ◌≡◌ {A = Then T} Then.GoesOn (Then.Waits count) = subst (λ (o : List (Event T)). latest_outcome o ≡ Then.Waits count) nothing waits in absurd cc
    outcome_is (inr more) = subst (λ (o : List (Event T)). latest_outcome o ≡ Then.Waits count) more.2 waits

    stepped : (d : PendingCall T) (place : RwWriterPlace) → call_of e.party past ≡ Some d → stage_of rw_writer_table d ≡ Some place →
        Led count d (rw_writer_table.after place (value_told {T = T} (carried_out (rw_writer_table.intent place (hold_of rw_writer_table e.party past)) (word_in rw_writer_table past)))) →
        (step_at {T = T} rw_writer_table place (hold_of rw_writer_table e.party past) (word_in rw_writer_table past)).outcome ≡ Then.Waits count →
        is_blocked (word_after Word.State (step_at {T = T} rw_writer_table place (hold_of rw_writer_table e.party past) (word_in rw_writer_table past)).act w) ≡ true
    stepped d place called stage led stands = by_step (write_step place d (hold_of rw_writer_table e.party past) (word_in rw_writer_table past) (here z parties past run.1 e.party d place called stage) led.0)
      where
        act : Act T
        act = (step_at {T = T} rw_writer_table place (hold_of rw_writer_table e.party past) (word_in rw_writer_table past)).act

        a : After T RwWriterPlace
        a = rw_writer_table.after place (value_told {T = T} (carried_out (rw_writer_table.intent place (hold_of rw_writer_table e.party past)) (word_in rw_writer_table past)))

        by_step : IsPlain a ⊎ (LoadsCount (word_in rw_writer_table past Word.Counter) act a ⊎ StandsNow w place act a) → is_blocked (word_after Word.State act w) ≡ true
        by_step (inl plain) = absurd (plain_stands count a plain stands)
        by_step (inr (inl loads)) = let no : ◌≡◌ {A = Then T} Then.GoesOn (Then.Waits count) = sym (ap outcome_of loads.leads) ∙ stands in absurd cc
        by_step (inr (inr now)) = subst (λ (x : Act T). is_blocked (word_after Word.State x w) ≡ true) (sym now.looks) now.blocked

-- an event that ends that the lock is blocked is no answer and no add
ended_owes :
    {T : Type 0} (z : Arithmetic T) (parties : ℕ) (past : List (Event T)) (e : Event T) → IsPast z rw_writer_table parties (e ∷ past) → Ended (word_in rw_writer_table past Word.State) e.act → (is_answer e.then ≡ false) × (adds_count e.act ≡ false)
ended_owes {T} z parties past e run ended =
    by_move rw_writer_table (call_of e.party past) (hold_of rw_writer_table e.party past) (word_in rw_writer_table past)
    (λ (k : Option (PendingCall T)) (x : Move T). Ended (word_in rw_writer_table past Word.State) x.act → (is_answer x.outcome ≡ false) × (adds_count x.act ≡ false))
    run.0.0 (record { act = e.act; outcome = e.then }) (λ call _ so. (refl, refl)) (λ action _ so. (refl, refl)) (λ choice _ so. (refl, refl))
    (λ c place _ called stage so.
    let led = ends_blocked place c (hold_of rw_writer_table e.party past) (word_in rw_writer_table past) (here z parties past run.1 e.party c place called stage) (fits_word z parties past run.1) so.0 so.1 in
    (ap (λ (b : After T RwWriterPlace). is_answer (outcome_of b)) led.counts, led.is_before))
    run.0.1.moved ended

-- the event of a party that owes is its add, or an answer of a closure, after which it still owes
owing_adds :
    {T : Type 0} (z : Arithmetic T) (parties : ℕ) (past : List (Event T)) (e : Event T) → IsPast z rw_writer_table parties (e ∷ past) → OwesAt (call_of e.party past) → (adds_count e.act ≡ true) ⊎ (is_answer e.then ≡ false)
owing_adds z parties past e h1 h2 = grind (arith, nat_tests, eqb-true, eqb-false)

pub pays_next : {T : Type 0} (z : Arithmetic T) (parties : ℕ) (past : List (Event T)) → IsPast z rw_writer_table parties past → PaysNext past
pays_next z parties [] run = tt
pays_next {T} z parties (e ∷ past) run = λ owes goes.
    by_move rw_writer_table (call_of e.party past) (hold_of rw_writer_table e.party past) (word_in rw_writer_table past)
    (λ (k : Option (PendingCall T)) (x : Move T). OwesAt k → is_step x.act ≡ true → adds_count x.act ≡ true)
    run.0.0 (record { act = e.act; outcome = e.then }) (λ call _ so go. absurd cc) (λ action _ so go. absurd cc) (λ choice _ so go. absurd cc)
    (λ c place _ called stage so go. owed_adds c place (hold_of rw_writer_table e.party past) (word_in rw_writer_table past) stage so)
    run.0.1.moved (owes_at z parties past run.1 e.party owes) goes

still_heard :
    {T : Type 0} (z : Arithmetic T) (parties party : ℕ) (past : List (Event T)) (e : Event T) → IsPast z rw_writer_table parties (e ∷ past) → (e.party == party) ≡ false → IsHeard party past → IsHeard party (e ∷ past)
still_heard {T} z parties party past e run other (inr (inr adds)) = inr (inr (rw other (omega (arith, adds))))
still_heard {T} z parties party past e run other (inl blocked) = by_word (is_blocked (word_in rw_writer_table (e ∷ past) Word.State)) refl
  where
    by_word : (b : Bool) → is_blocked (word_in rw_writer_table (e ∷ past) Word.State) ≡ b → IsHeard party (e ∷ past)
    by_word true is = inl is
    by_word false is =
        let so = ended_owes z parties past e run (blocked, is) in
        let before : is_blocked_after past ≡ true = blocked_at z parties past run.1 ∙ blocked in
        let after : is_blocked_after (e ∷ past) ≡ false = blocked_at z parties (e ∷ past) run ∙ is in
        inr (inl (e.party, new_debt (eq-eqb e.party e.party refl) so.0 so.1 before after))
      where
        new_debt : (e.party == e.party) ≡ true → is_answer e.then ≡ false → adds_count e.act ≡ false → is_blocked_after past ≡ true → is_blocked_after (e ∷ past) ≡ false → owes_count e.party (e ∷ past) ≡ true
        new_debt same quiet no_add was now = owed (e.party == e.party) (is_answer e.then) (adds_count e.act) (is_blocked_after past) (is_blocked_after (e ∷ past)) (owes_count e.party past) same quiet no_add was now
          where
            owed : (b answer add was now rest : Bool) → b ≡ true → answer ≡ false → add ≡ false → was ≡ true → now ≡ false → cond b (cond (answer || add) false (cond (was && not now) true rest)) rest ≡ true
            owed b answer add was now rest p q r s t = rw (p, q, r, s, t) refl
still_heard {T} z parties party past e run other (inr (inl debt)) = by_debtor (e.party == debt.0) refl
  where
    kept : (b answer add ended rest : Bool) → rest ≡ true → b ≡ false → cond b (cond (answer || add) false (cond ended true rest)) rest ≡ true
    kept b answer add ended rest is apart = rw apart is

    own : (b answer add ended rest : Bool) → rest ≡ true → answer ≡ false → add ≡ false → cond b (cond (answer || add) false (cond ended true rest)) rest ≡ true
    own true answer add true rest is quiet no_add = rw (quiet, no_add) refl
    own true answer add false rest is quiet no_add = rw (quiet, no_add) is
    own false answer add ended rest is quiet no_add = is

    by_add : (b : Bool) → adds_count e.act ≡ b → (adds_count e.act ≡ true) ⊎ (is_answer e.then ≡ false) → IsHeard party (e ∷ past)
    by_add true adds why = inr (inr (rw (other, adds) (omega arith)))
    by_add false adds (inl now) = clash (adds_count e.act) now adds
    by_add false adds (inr quiet) =
        inr (inl (debt.0, own (e.party == debt.0) (is_answer e.then) (adds_count e.act) (is_blocked_after past && not (is_blocked_after (e ∷ past))) (owes_count debt.0 past) debt.1 quiet adds))

    by_debtor : (b : Bool) → (e.party == debt.0) ≡ b → IsHeard party (e ∷ past)
    by_debtor false apart = inr (inl (debt.0, kept (e.party == debt.0) (is_answer e.then) (adds_count e.act) (is_blocked_after past && not (is_blocked_after (e ∷ past))) (owes_count debt.0 past) debt.1 apart))
    by_debtor true same =
        let is : e.party ≡ debt.0 = eqb-true e.party debt.0 same in
        let owes : OwesAt (call_of e.party past) = owes_at z parties past run.1 e.party (subst (λ q. owes_count q past ≡ true) (sym is) debt.1) in
        by_add (adds_count e.act) refl (owing_adds z parties past e run owes)

heard : {T : Type 0} (z : Arithmetic T) (parties : ℕ) (past : List (Event T)) → IsPast z rw_writer_table parties past → (party count : ℕ) → StandsWith party count past → IsHeard party past
heard z parties [] run party count stands = let nothing = stands.under_way in absurd cc
heard {T} z parties (e ∷ past) run party count stands = by_party (heard z parties past run.1 party count) (eqb_tells e.party party)
  where
    by_party : (StandsWith party count past → IsHeard party past) → (((e.party == party) ≡ true) × (e.party ≡ party)) ⊎ (((e.party == party) ≡ false) × (e.party ≢ party)) → IsHeard party (e ∷ past)
    by_party before (inl mine) =
        let under_way : call_of e.party (e ∷ past) ≡ Some stands.call = subst (λ q. call_of q (e ∷ past) ≡ Some stands.call) (sym mine.1) stands.under_way in
        inl (own_stands z parties count past e run stands.call (sym (call_of_same e.party e.act e.then past) ∙ under_way) stands.writes stands.stands)
    by_party before (inr other) =
        let was : call_of party past ≡ Some stands.call = sym (call_of_other e.party party e.act e.then past (λ same. other.1 (sym same))) ∙ stands.under_way in
        still_heard z parties party past e run other.0 (before (record { call = stands.call; under_way = was; writes = stands.writes; stands = stands.stands }))

pub no_count_is_lost : {T : Type 0} (z : Arithmetic T) (parties : ℕ) (past : List (Event T)) → IsPast z rw_writer_table parties past → NoCountIsLost past
no_count_is_lost {T} z parties past run party count stands few same free = by_heard (heard z parties past run party count stands)
  where
    sum : word_in rw_writer_table past Word.Counter ≡ (count + counts_since_load party past) % 2 ^ 64
    sum = sum_of (word_in rw_writer_table past Word.Counter) count (counts_since_load party past)
        (loaded_sum z parties past run party count (record { call = stands.call; under_way = stands.under_way; writes = stands.writes; loaded = inr stands.stands }))

    by_heard : IsHeard party past → (q : ℕ) × (owes_count q past ≡ true)
    by_heard (inl blocked) = clash (is_blocked_after past) (blocked_at z parties past run ∙ blocked) free
    by_heard (inr (inl debt)) = debt
    by_heard (inr (inr adds)) = absurd (omega (arith, sum, same, few, adds, fits_counter z parties past run))
