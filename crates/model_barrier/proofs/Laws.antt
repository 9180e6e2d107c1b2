-- A barrier keeps its law at every prefix of every run.
use Rattle.model_barrier.specs.Names.{MatchBool, MatchOption, nat_lt, Word, Call, Act, Answer, Event, Then, After, carried_out, value_told, outcome_of, place_after, within, same_word, PendingCall, call_of, hold_of, word_in, word_after, event, Move, step_at, is_step, is_sight, AtLast, spins_in, last_of, StepsAs, seen_last, WhereAsked, Lacks, is_refusal}
use Rattle.model_barrier.proofs.Names.{◌≡◌, ◌≢◌, ℕ, ◌+◌, ◌/◌, ◌%◌, ◌≤◌, ◌<◌, ◌^◌, ◌==◌, refl, sym, ◌∙◌, ap, subst, Bool, true, false, cond, List, [], ◌∷◌, Option, Some, None, ◌⊎◌, inl, inr, ◌↔◌, arith, eqb-true, eqb-false, eq-eqb, nat_tests, eqb_other, no_holds, exclusive_unheld, by_move, tells_memory, spins_spent, IsKept, at_place, IsAskedAs, waits_first, waits_as, spins_no_more, both_kept, steps_as, IsToldOf, own_at_last, at_last_maps, epoch_of, count_of, with_arrival, is_arrival, arrivals_in, round_of, full_rounds, IsFull, CountsArrivals}
use Rattle.model_events.specs.Exports.{Arithmetic, IsPast}
use Rattle.model_events.specs.declared.{WaitAction.WaitAction, hold.HoldKind.HoldKind, patience.Patience.Patience}
use Rattle.model_barrier.specs.declared.BarrierPlace.{BarrierPlace}
use Rattle.model_barrier.specs.Table.{barrier_table, barrier_begins, barrier_intent, barrier_after}
use Rattle.model_barrier.specs.Law.{BarrierCause, is_ok, is_wake_of_all, is_wake, since_arrival, steps_on, looked, barrier_waiting, BarrierStep, KeepsBarrier}
use Rattle.model_barrier.proofs.Rounds.{count_is, epoch_is, counts_none, counts_more, later_epoch, filled_round, is_full}

-- What is kept of a call at its place.

-- the call's own arrival was from this value, where fewer than n had arrived
abbrev pub ArrivedFrom : {T : Type 0} → ℕ → ℕ → List (Event T) → Type 0
ArrivedFrom n v own = (to : ℕ) × (found : ℕ) × (last_of is_arrival own ≡ Some (Act.Exchange Word.State v to found true)) × (count_of v < n)

abbrev pub AtBarrier : {T : Type 0} → ℕ → BarrierPlace → PendingCall T → Option HoldKind → Type 0
AtBarrier n (BarrierPlace.Look m) c hold = (c.call ≡ Call.Wait) × (m ≡ n) × (arrivals_in c.own ≡ 0)
AtBarrier n (BarrierPlace.Arrive m seen to) c hold = (c.call ≡ Call.Wait) × (m ≡ n) × (count_of seen < n) × (to ≡ with_arrival n seen) × (arrivals_in c.own ≡ 0)
AtBarrier n BarrierPlace.Wake c hold = (c.call ≡ Call.Wait) × ((v : ℕ) × ArrivedFrom n v c.own × (count_of v + 1 ≡ n)) × (spins_in is_step (since_arrival c.own) ≡ 0)
AtBarrier n (BarrierPlace.Stay epoch spins) c hold =
    (c.call ≡ Call.Wait) × ((v : ℕ) × ArrivedFrom n v c.own × (epoch_of v ≡ epoch) × (count_of v + 1 ≢ n)) × (spins_in (is_sight Word.State) (since_arrival c.own) ≡ spins) × (spins ≤ 10000)
    × (spins_in is_step (since_arrival c.own) ≡ spins)

-- Where a call begins.

begins_at :
    {T : Type 0} (n : ℕ) (call : Call T) (place : BarrierPlace) (hold : Option HoldKind) → barrier_begins n call ≡ Some place → AtBarrier {T = T} n place (record { call = call; own = [] }) hold
begins_at n call place hold h1 = grind (arith, nat_tests, eqb-true, eqb-false)

-- Where a step leads.

-- how a call goes on after a look, by whether fewer than all have arrived
abbrev look_after : {T : Type 0} → ℕ → ℕ → Bool → After T BarrierPlace
look_after m v below = cond below (After.At (BarrierPlace.Arrive m v (with_arrival m v))) (After.Ends Answer.Full)

look_steps :
    {T : Type 0} (n m : ℕ) (c : PendingCall T) (hold : Option HoldKind) (v : ℕ) (e : Event T) (next : BarrierPlace) (below : Bool) → c.call ≡ Call.Wait → m ≡ n → arrivals_in c.own ≡ 0 → is_arrival e.act ≡ false → nat_lt (count_of v) m ≡ below →
    place_after {T = T} (look_after m v below) ≡ Some next → AtBarrier n next (record { call = c.call; own = e ∷ c.own }) hold
look_steps n m c hold v e next below h1 h2 h3 h4 h5 h6 = grind (arith, nat_tests, eqb-true, eqb-false)

-- how it goes on after its arrival, by whether this made n
abbrev joined_after : {T : Type 0} → ℕ → Bool → After T BarrierPlace
joined_after v fills = cond fills (After.At BarrierPlace.Wake) (After.At (BarrierPlace.Stay (epoch_of v) 0))

joined_steps :
    {T : Type 0} (n m : ℕ) (c : PendingCall T) (hold : Option HoldKind) (seen to found number : ℕ) (outcome : Then T) (next : BarrierPlace) (fills : Bool) → c.call ≡ Call.Wait → m ≡ n → count_of seen < n →
    (count_of seen + 1 == m) ≡ fills → place_after {T = T} (joined_after seen fills) ≡ Some next →
    AtBarrier n next (record { call = c.call; own = event number (Act.Exchange Word.State seen to found true) outcome ∷ c.own }) hold
joined_steps {T} n m c hold seen to found number outcome next true wait same below fills is =
    let made : BarrierPlace.Wake ≡ next = cc in
    subst (λ p. AtBarrier {T = T} n p (record { call = c.call; own = event number (Act.Exchange Word.State seen to found true) outcome ∷ c.own }) hold) made
    (wait, (seen, (to, found, refl, below), eqb-true (count_of seen + 1) m fills ∙ same), refl)
joined_steps {T} n m c hold seen to found number outcome next false wait same below fills is =
    let made : BarrierPlace.Stay (epoch_of seen) 0 ≡ next = cc in
    subst (λ p. AtBarrier {T = T} n p (record { call = c.call; own = event number (Act.Exchange Word.State seen to found true) outcome ∷ c.own }) hold) made
    (wait, (seen, (to, found, refl, below), refl, λ is. eqb-false (count_of seen + 1) m fills (is ∙ sym same)), refl, omega arith, refl)

arrive_steps :
    {T : Type 0} (n m : ℕ) (c : PendingCall T) (hold : Option HoldKind) (seen to w number : ℕ) (outcome : Then T) (next : BarrierPlace) (done : Bool) → c.call ≡ Call.Wait → m ≡ n → count_of seen < n → arrivals_in c.own ≡ 0 →
    place_after {T = T} (cond done (joined_after seen (count_of seen + 1 == m)) (look_after m w (nat_lt (count_of w) m))) ≡ Some next →
    AtBarrier n next (record { call = c.call; own = event number (Act.Exchange Word.State seen to w done) outcome ∷ c.own }) hold
arrive_steps n m c hold seen to w number outcome next done h1 h2 h3 h4 h5 = grind (arith, nat_tests, eqb-true, eqb-false, joined_steps, look_steps)

-- how a call that stays goes on, by two tests: it sees the epoch of its arrival, it has spins left
abbrev stay_after : {T : Type 0} → ℕ → ℕ → ℕ → Bool → Bool → After T BarrierPlace
stay_after epoch spins v same left =
    cond same (within (λ (p : Patience). BarrierPlace.Stay epoch p.spins) (cond left (After.At (record { spins = spins + 1; keep = true })) (After.Waits (record { spins = spins; keep = true }) v))) (After.Ends Answer.Ok)

stay_steps :
    {T : Type 0} (n epoch spins : ℕ) (c : PendingCall T) (hold : Option HoldKind) (v number : ℕ) (next : BarrierPlace) (same left : Bool) → AtBarrier n (BarrierPlace.Stay epoch spins) c hold → nat_lt spins 10000 ≡ left →
    place_after {T = T} (stay_after epoch spins v same left) ≡ Some next →
    AtBarrier n next (record { call = c.call; own = event number (Act.Load Word.State v) (outcome_of {T = T} (stay_after epoch spins v same left)) ∷ c.own }) hold
stay_steps n epoch spins c hold v number next same left h1 h2 h3 = grind (arith, nat_tests, eqb-true, eqb-false)

steps_at :
    {T : Type 0} (n : ℕ) (place : BarrierPlace) (c : PendingCall T) (hold left : Option HoldKind) (memory : Word → ℕ) (number : ℕ) (next : BarrierPlace) → AtBarrier n place c hold →
    place_after {T = T} (barrier_after place (value_told {T = T} (carried_out (barrier_intent Word.State place) memory))) ≡ Some next →
    AtBarrier n next (record { call = c.call; own = event number (step_at (barrier_table n) place hold memory).act (step_at (barrier_table n) place hold memory).outcome ∷ c.own }) left
steps_at n place c hold left memory number next h1 h2 = grind (arith, nat_tests, eqb-true, eqb-false, look_steps, arrive_steps, stay_steps)

-- Where an answer leads.

answers_at :
    {T : Type 0} (n : ℕ) (place : BarrierPlace) (c : PendingCall T) (hold : Option HoldKind) (action : WaitAction) (number : ℕ) → AtBarrier n place c hold →
    AtBarrier {T = T} n place (record { call = c.call; own = event number (Act.Answered action) Then.GoesOn ∷ c.own }) hold
answers_at n place c hold action number h1 = grind (arith, nat_tests, eqb-true, eqb-false)

chooses_at :
    {T : Type 0} (n : ℕ) (place : BarrierPlace) (c : PendingCall T) (hold : Option HoldKind) (choice : Option T) (number : ℕ) → AtBarrier n place c hold →
    AtBarrier {T = T} n place (record { call = c.call; own = event number (Act.Chosen choice) Then.GoesOn ∷ c.own }) hold
chooses_at n place c hold choice number h1 = grind (arith, nat_tests, eqb-true, eqb-false)

pub barrier_kept : {T : Type 0} (n : ℕ) → IsKept {T = T} (barrier_table n) (AtBarrier n)
barrier_kept n = grind (arith, nat_tests, eqb-true, eqb-false, begins_at, steps_at, answers_at, chooses_at)

-- No call goes on by itself more than 10000 times since its arrival.

spins_bounded : {T : Type 0} (n : ℕ) (place : BarrierPlace) (c : PendingCall T) (hold : Option HoldKind) → AtBarrier n place c hold → steps_on c.call c.own ≤ 10000
spins_bounded n place c hold h1 = grind (arith, nat_tests, eqb-true, eqb-false)

-- a call with an arrival has arrived
has_arrived : {T : Type 0} (own : List (Event T)) (act : Act T) → last_of is_arrival own ≡ Some act → (arrivals_in own == 0) ≡ false
has_arrived [] act is = absurd cc
has_arrived (e ∷ own) act is = by_test (is_arrival e.act) is (λ last. has_arrived own act last)
  where
    by_test : (arrives : Bool) → cond arrives (Some e.act) (last_of is_arrival own) ≡ Some act → (last_of is_arrival own ≡ Some act → (arrivals_in own == 0) ≡ false) → (cond arrives 1 0 + arrivals_in own == 0) ≡ false
    by_test true last before = eqb_other (1 + arrivals_in own) 0 (λ none. absurd (omega (arith, none)))
    by_test false last before = ap (λ n. n == 0) same ∙ before last
      where
        same : 0 + arrivals_in own ≡ arrivals_in own
        same = omega arith

-- What a step does to the word: nothing, or it counts one arrival.

none_of : (v n : ℕ) → count_of v < n → n ≡ 0 → ⊥
none_of v n below none = omega (arith, below, none)

abbrev Effect : {T : Type 0} → ℕ → ℕ → Act T → Type 0
Effect n w act = ((word_after Word.State act w ≡ w) × (is_arrival act ≡ false)) ⊎ ((count_of w < n) × (word_after Word.State act w ≡ with_arrival n w) × (is_arrival act ≡ true))

step_effect :
    {T : Type 0} (n : ℕ) (c : PendingCall T) (place : BarrierPlace) (hold : Option HoldKind) (memory : Word → ℕ) → AtBarrier {T = T} n place c hold → Effect {T = T} n (memory Word.State) (step_at (barrier_table n) place hold memory).act
step_effect n c place hold memory h1 = grind (arith, nat_tests, eqb-true, eqb-false)

event_effect : {T : Type 0} (z : Arithmetic T) (n parties : ℕ) (past : List (Event T)) (e : Event T) → IsPast z (barrier_table n) parties (e ∷ past) → Effect n (word_in (barrier_table n) past Word.State) e.act
event_effect {T} z n parties past e run =
    by_move (barrier_table n) (call_of e.party past) (hold_of (barrier_table n) e.party past) (word_in (barrier_table n) past)
    (λ (k : Option (PendingCall T)) (m : Move T). Effect n (word_in (barrier_table n) past Word.State) m.act)
    run.0.0 (record { act = e.act; outcome = e.then })
    (λ call _. inl (refl, refl)) (λ action _. inl (refl, refl)) (λ choice _. inl (refl, refl))
    (λ c place _ called stage.
    step_effect n c place (hold_of (barrier_table n) e.party past) (word_in (barrier_table n) past)
    (at_place z (barrier_table n) parties (AtBarrier n) (barrier_kept n) past run.1 e.party c place called stage))
    run.0.1.moved

counted : (n arrivals w word : ℕ) (arrives : Bool) → n < 2 ^ 32 → CountsArrivals n arrivals w →
    ((word ≡ w) × (arrives ≡ false)) ⊎ ((count_of w < n) × (word ≡ with_arrival n w) × (arrives ≡ true)) → CountsArrivals n (cond arrives 1 0 + arrivals) word
counted n arrivals w word arrives fits counts (inl quiet) = rw (quiet.0, quiet.1) (let none : 0 + arrivals ≡ arrivals = omega arith in rw none counts)
counted n arrivals w word arrives fits counts (inr more) =
    rw (more.1, more.2) (let one : 1 + arrivals ≡ arrivals + 1 = omega arith in rw one (counts_more n arrivals w fits more.0 counts))

-- at every prefix the word tells the full rounds and the arrivals of the next one
pub barrier_counts : {T : Type 0} (z : Arithmetic T) (n parties : ℕ) → n < 2 ^ 32 → (past : List (Event T)) → IsPast z (barrier_table n) parties past → CountsArrivals n (arrivals_in past) (word_in (barrier_table n) past Word.State)
barrier_counts z n parties fits [] run = counts_none n
barrier_counts z n parties fits (e ∷ past) run = counted n _ _ _ (is_arrival e.act) fits (barrier_counts z n parties fits past run.1) (event_effect z n parties past e run)

-- at a barrier of 0 no event is an arrival, since no count is below 0
none_more : (n arrivals w word : ℕ) (arrives : Bool) → n ≡ 0 → (arrivals ≡ 0) × (w ≡ 0) →
    ((word ≡ w) × (arrives ≡ false)) ⊎ ((count_of w < n) × (word ≡ with_arrival n w) × (arrives ≡ true)) → (cond arrives 1 0 + arrivals ≡ 0) × (word ≡ 0)
none_more n arrivals w word arrives h1 h2 h3 = grind (arith, nat_tests, eqb-true, eqb-false)

nobody_arrives : {T : Type 0} (z : Arithmetic T) (n parties : ℕ) (past : List (Event T)) → IsPast z (barrier_table n) parties past → n ≡ 0 → (arrivals_in past ≡ 0) × (word_in (barrier_table n) past Word.State ≡ 0)
nobody_arrives z n parties [] run none = (refl, refl)
nobody_arrives z n parties (e ∷ past) run none = none_more n _ _ _ (is_arrival e.act) none (nobody_arrives z n parties past run.1 none) (event_effect z n parties past e run)

-- A call that has arrived stands in a full round, where its own round is before the present one.

abbrev pub StandsInFullRound : {T : Type 0} → ℕ → ℕ → List (Event T) → Type 0
StandsInFullRound n party past = AtLast is_arrival (λ before. IsFull n (round_of n (arrivals_in before)) past) party past

-- the call's own arrival among all: before it the word was this, and fewer had arrived than have by now
own_arrival :
    {T : Type 0} (z : Arithmetic T) (n parties : ℕ) → n < 2 ^ 32 → (party : ℕ) (past : List (Event T)) → IsPast z (barrier_table n) parties past → (c : PendingCall T) → call_of party past ≡ Some c →
    (v : ℕ) → ArrivedFrom n v c.own → AtLast is_arrival (λ before. (arrivals_in before < arrivals_in past) × CountsArrivals n (arrivals_in before) v) party past
own_arrival {T} z n parties fits party past run c called v arrived =
    at_last_maps is_arrival (IsToldOf z (barrier_table n) parties is_arrival act past) (λ before. (arrivals_in before < arrivals_in past) × CountsArrivals n (arrivals_in before) v) counted_at party past
    (own_at_last z (barrier_table n) parties is_arrival party act past run c called arrived.2)
  where
    act : Act T
    act = Act.Exchange Word.State v arrived.0 arrived.1 true

    counted_at : (before : List (Event T)) → IsToldOf z (barrier_table n) parties is_arrival (Act.Exchange Word.State v arrived.0 arrived.1 true) past before →
        (arrivals_in before < arrivals_in past) × CountsArrivals n (arrivals_in before) v
    counted_at before told =
        let held : word_in (barrier_table n) before Word.State ≡ v = sym told.1.0 ∙ eqb-true arrived.1 v (sym told.1.1) in
        (told.2, subst (λ w. CountsArrivals n (arrivals_in before) w) held (barrier_counts z n parties fits before told.0))

own_round_full :
    {T : Type 0} (z : Arithmetic T) (n parties : ℕ) → n < 2 ^ 32 → (party : ℕ) (past : List (Event T)) → IsPast z (barrier_table n) parties past → (c : PendingCall T) → call_of party past ≡ Some c →
    (v : ℕ) → ArrivedFrom n v c.own → ((own : ℕ) → own < arrivals_in past → CountsArrivals n own v → own / n < arrivals_in past / n) → StandsInFullRound n party past
own_round_full z n parties fits party past run c called v arrived passed =
    let some : 0 < n = omega (arith, arrived.3) in
    at_last_maps is_arrival (λ before. (arrivals_in before < arrivals_in past) × CountsArrivals n (arrivals_in before) v) (λ before. IsFull n (round_of n (arrivals_in before)) past)
    (λ before own arrival is. is_full n (arrivals_in past) (arrivals_in before / n) some (passed (arrivals_in before) own.0 own.1) arrival is)
    party past (own_arrival z n parties fits party past run c called v arrived)

-- and did not fill its round, where it did not make n
own_not_last :
    {T : Type 0} (z : Arithmetic T) (n parties : ℕ) → n < 2 ^ 32 → (party : ℕ) (past : List (Event T)) → IsPast z (barrier_table n) parties past → (c : PendingCall T) → call_of party past ≡ Some c →
    (v : ℕ) → ArrivedFrom n v c.own → count_of v + 1 ≢ n → AtLast is_arrival (λ before. arrivals_in before % n + 1 ≢ n) party past
own_not_last z n parties fits party past run c called v arrived other =
    let some : 0 < n = omega (arith, arrived.3) in
    at_last_maps is_arrival (λ before. (arrivals_in before < arrivals_in past) × CountsArrivals n (arrivals_in before) v) (λ before. arrivals_in before % n + 1 ≢ n)
    (λ before own is. other (omega (arith, is, count_is n (arrivals_in before) v some fits own.1)))
    party past (own_arrival z n parties fits party past run c called v arrived)

-- and filled it, where it did
own_is_last :
    {T : Type 0} (z : Arithmetic T) (n parties : ℕ) → n < 2 ^ 32 → (party : ℕ) (past : List (Event T)) → IsPast z (barrier_table n) parties past → (c : PendingCall T) → call_of party past ≡ Some c →
    (v : ℕ) → ArrivedFrom n v c.own → count_of v + 1 ≡ n → AtLast is_arrival (λ before. arrivals_in before % n + 1 ≡ n) party past
own_is_last z n parties fits party past run c called v arrived last =
    let some : 0 < n = omega (arith, arrived.3) in
    at_last_maps is_arrival (λ before. (arrivals_in before < arrivals_in past) × CountsArrivals n (arrivals_in before) v) (λ before. arrivals_in before % n + 1 ≡ n)
    (λ before own. omega (arith, last, count_is n (arrivals_in before) v some fits own.1))
    party past (own_arrival z n parties fits party past run c called v arrived)

-- It leaves exactly where it sees another epoch than that of its arrival.

abbrev pub LeavesAt : {T : Type 0} → ℕ → ℕ → List (Event T) → Then T → Type 0
LeavesAt n party past outcome = AtLast is_arrival (λ before. (outcome ≡ Then.Answers Answer.Ok) ↔ (full_rounds n past % 2 ^ 32 ≢ round_of n (arrivals_in before) % 2 ^ 32)) party past

leaves_by_epoch :
    {T : Type 0} (z : Arithmetic T) (n parties : ℕ) → n < 2 ^ 32 → (party : ℕ) (past : List (Event T)) → IsPast z (barrier_table n) parties past → (c : PendingCall T) → call_of party past ≡ Some c →
    (v w : ℕ) → ArrivedFrom n v c.own → CountsArrivals n (arrivals_in past) w → (outcome : Then T) → ((outcome ≡ Then.Answers Answer.Ok) ↔ (epoch_of w ≢ epoch_of v)) → LeavesAt n party past outcome
leaves_by_epoch {T} z n parties fits party past run c called v w arrived counts outcome exact =
    at_last_maps is_arrival (λ before. (arrivals_in before < arrivals_in past) × CountsArrivals n (arrivals_in before) v)
    (λ before. (outcome ≡ Then.Answers Answer.Ok) ↔ (full_rounds n past % 2 ^ 32 ≢ round_of n (arrivals_in before) % 2 ^ 32))
    (λ before own. by_rounds (arrivals_in before) own.1) party past (own_arrival z n parties fits party past run c called v arrived)
  where
    by_rounds : (own : ℕ) → CountsArrivals n own v → (outcome ≡ Then.Answers Answer.Ok) ↔ (arrivals_in past / n % 2 ^ 32 ≢ own / n % 2 ^ 32)
    by_rounds own counted =
        let some : 0 < n = omega (arith, arrived.3) in
        let now : epoch_of w ≡ arrivals_in past / n % 2 ^ 32 = epoch_is n (arrivals_in past) w some fits counts in
        let own_epoch : epoch_of v ≡ own / n % 2 ^ 32 = epoch_is n own v some fits counted in
        (λ ok is. exact.0 ok (now ∙ is ∙ sym own_epoch), λ other. exact.1 (λ is. other (sym now ∙ is ∙ own_epoch)))

-- What one more event tells.

-- what is so of a call where it asks its wait closure
abbrev pub IsAskedSo : {T : Type 0} → PendingCall T → Act T → ℕ → Type 0
IsAskedSo c act told = IsAskedAs barrier_waiting c act told

pub record EventLaw {T : Type 0} (n party : ℕ) (past : List (Event T)) (pending : Option (PendingCall T)) (m : Move T) : Type 0 where
  pub cause : MatchBool (is_refusal m.outcome) (MatchOption pending ⊥ (λ c. BarrierCause n c.call party (event party m.act m.outcome ∷ past))) (Unit {0})
  pub passes : MatchBool (is_ok m.outcome) (StandsInFullRound n party past) (Unit {0})
  pub wakes : MatchBool (is_ok m.outcome) (MatchBool (is_wake_of_all m.act) (Unit {0}) (AtLast is_arrival (λ before. arrivals_in before % n + 1 ≢ n) party past)) (Unit {0})
  pub exact : is_sight Word.State m.act ≡ true → ((m.outcome ≡ Then.Answers Answer.Full) ↔ (n ≡ 0))
  pub asks : WhereAsked IsAskedSo pending m.act m.outcome
  pub alone : MatchBool (is_wake m.act) ((is_wake_of_all m.act ≡ true) × (m.outcome ≡ Then.Answers Answer.Ok) × AtLast is_arrival (λ before. arrivals_in before % n + 1 ≡ n) party past) (Unit {0})
  pub leaves : is_sight Word.State m.act ≡ true → MatchOption pending ⊥ (λ c. 0 < arrivals_in c.own) → LeavesAt n party past m.outcome

-- only a barrier of 0 refuses

look_law :
    {T : Type 0} (n m party : ℕ) (past : List (Event T)) (c : PendingCall T) (act : Act T) (v : ℕ) (below : Bool) → n < 2 ^ 32 → c.call ≡ Call.Wait → m ≡ n → arrivals_in c.own ≡ 0 → CountsArrivals n (arrivals_in past) v →
    is_arrival act ≡ false → is_wake act ≡ false → nat_lt (count_of v) m ≡ below → EventLaw n party past (Some c) (record { act = act; outcome = outcome_of {T = T} (look_after m v below) })
look_law n m party past c act v below h1 h2 h3 h4 h5 h6 h7 h8 = grind (arith, nat_tests, eqb-true, eqb-false)

arrive_law :
    {T : Type 0} (n m party : ℕ) (past : List (Event T)) (c : PendingCall T) (seen to w : ℕ) (done : Bool) → n < 2 ^ 32 → c.call ≡ Call.Wait → m ≡ n → count_of seen < n → arrivals_in c.own ≡ 0 → CountsArrivals n (arrivals_in past) w →
    EventLaw n party past (Some c)
    (record { act = Act.Exchange Word.State seen to w done; outcome = outcome_of {T = T} (cond done (joined_after seen (count_of seen + 1 == m)) (look_after m w (nat_lt (count_of w) m))) })
arrive_law n m party past c seen to w done h1 h2 h3 h4 h5 h6 = grind (arith, nat_tests, eqb-true, eqb-false)

stay_law :
    {T : Type 0} (z : Arithmetic T) (n parties : ℕ) → n < 2 ^ 32 → (party : ℕ) (past : List (Event T)) → IsPast z (barrier_table n) parties past → (c : PendingCall T) → call_of party past ≡ Some c →
    (hold : Option HoldKind) (epoch spins w : ℕ) (same left : Bool) → AtBarrier n (BarrierPlace.Stay epoch spins) c hold → CountsArrivals n (arrivals_in past) w → (epoch_of w == epoch) ≡ same → nat_lt spins 10000 ≡ left →
    EventLaw n party past (Some c) (record { act = Act.Load Word.State w; outcome = outcome_of {T = T} (stay_after epoch spins w same left) })
stay_law z n parties fits party past run c called hold epoch spins w false left at counts sees spun =
    let v = at.1.0 in
    let below : count_of v < n = at.1.1.3 in
    let other : epoch_of w ≢ epoch_of v = λ is. eqb-false (epoch_of w) epoch sees (is ∙ at.1.2) in
    record {
      cause = tt;
      passes = own_round_full z n parties fits party past run c called v at.1.1 (λ own before counted. later_epoch n (arrivals_in past) own w v (omega (arith, below)) fits before counts counted other);
      wakes = own_not_last z n parties fits party past run c called v at.1.1 at.1.3;
      alone = tt;
      exact = λ sight. (λ full. absurd cc, λ none. absurd (none_of v n below none));
      asks = tt;
      leaves = λ sight arrived. leaves_by_epoch z n parties fits party past run c called v w at.1.1 counts (Then.Answers Answer.Ok) (λ ok. other, λ other. refl);
    }
stay_law z n parties fits party past run c called hold epoch spins w true true at counts sees spun =
    let epoch_seen : epoch_of w ≡ epoch_of at.1.0 = eqb-true (epoch_of w) epoch sees ∙ sym at.1.2 in
    record { cause = tt; passes = tt; wakes = tt; alone = tt; exact = λ sight. (λ full. absurd cc, λ none. absurd (none_of at.1.0 n at.1.1.3 none)); asks = tt; leaves = λ sight arrived. leaves_by_epoch z n parties fits party past run c called at.1.0 w at.1.1 counts Then.GoesOn (λ ok. absurd cc, λ other. absurd (other epoch_seen)) }
stay_law z n parties fits party past run c called hold epoch spins w true false at counts sees spun =
    let epoch_seen : epoch_of w ≡ epoch_of at.1.0 = eqb-true (epoch_of w) epoch sees ∙ sym at.1.2 in
    record { cause = tt; passes = tt; wakes = tt; alone = tt; exact = λ sight. (λ full. absurd cc, λ none. absurd (none_of at.1.0 n at.1.1.3 none)); asks = (rw (has_arrived c.own _ at.1.1.2) (at.2 ∙ spins_spent spins at.3 spun), refl, refl); leaves = λ sight arrived. leaves_by_epoch z n parties fits party past run c called at.1.0 w at.1.1 counts (Then.Waits w) (λ ok. absurd cc, λ other. absurd (other epoch_seen)) }

step_law :
    {T : Type 0} (z : Arithmetic T) (n parties : ℕ) → n < 2 ^ 32 → (party : ℕ) (past : List (Event T)) → IsPast z (barrier_table n) parties past → (c : PendingCall T) → call_of party past ≡ Some c →
    (place : BarrierPlace) (hold : Option HoldKind) (memory : Word → ℕ) → AtBarrier n place c hold → CountsArrivals n (arrivals_in past) (memory Word.State) →
    EventLaw n party past (Some c) (step_at (barrier_table n) place hold memory)
step_law z n parties fits party past run c called (BarrierPlace.Look m) hold memory at counts =
    let w = memory Word.State in
    look_law n m party past c (Act.Load Word.State w) w (nat_lt (count_of w) m) fits at.0 at.1 at.2 counts refl refl refl
step_law z n parties fits party past run c called (BarrierPlace.Arrive m seen to) hold memory at counts =
    let w = memory Word.State in
    arrive_law n m party past c seen to w (w == seen) fits at.0 at.1 at.2 at.4 counts
step_law z n parties fits party past run c called BarrierPlace.Wake hold memory at counts =
    let some : 0 < n = omega (arith, at.1.1.3) in
    record {
      cause = tt;
      passes = own_round_full z n parties fits party past run c called at.1.0 at.1.1 (λ own before counted. filled_round n (arrivals_in past) own at.1.0 some fits before counted at.1.2);
      wakes = tt;
      alone = (refl, refl, own_is_last z n parties fits party past run c called at.1.0 at.1.1 at.1.2);
      exact = λ sees. absurd cc;
      asks = tt;
      leaves = λ sees arrived. absurd cc;
    }
step_law z n parties fits party past run c called (BarrierPlace.Stay epoch spins) hold memory at counts =
    let w = memory Word.State in
    stay_law z n parties fits party past run c called hold epoch spins w (epoch_of w == epoch) (nat_lt spins 10000) at counts refl refl

event_law : {T : Type 0} (z : Arithmetic T) (n parties : ℕ) → n < 2 ^ 32 → (past : List (Event T)) (e : Event T) → IsPast z (barrier_table n) parties (e ∷ past) → EventLaw n e.party past (call_of e.party past) (record { act = e.act; outcome = e.then })
event_law {T} z n parties fits past e run =
    by_move (barrier_table n) (call_of e.party past) (hold_of (barrier_table n) e.party past) (word_in (barrier_table n) past)
    (λ (k : Option (PendingCall T)) (m : Move T). EventLaw n e.party past k m)
    run.0.0 (record { act = e.act; outcome = e.then })
    (λ call _. record { cause = tt; passes = tt; wakes = tt; alone = tt; exact = λ sees. absurd cc; asks = tt; leaves = λ sees arrived. absurd cc })
    (λ action _. record { cause = tt; passes = tt; wakes = tt; alone = tt; exact = λ sees. absurd cc; asks = tt; leaves = λ sees arrived. absurd cc })
    (λ choice _. record { cause = tt; passes = tt; wakes = tt; alone = tt; exact = λ sees. absurd cc; asks = tt; leaves = λ sees arrived. absurd cc })
    (λ c place _ called stage.
    step_law z n parties fits e.party past run.1 c called place (hold_of (barrier_table n) e.party past) (word_in (barrier_table n) past)
    (at_place z (barrier_table n) parties (AtBarrier n) (barrier_kept n) past run.1 e.party c place called stage) (barrier_counts z n parties fits past run.1))
    run.0.1.moved

-- Each step is its call's next.

-- what its latest step saw, where it has not arrived
abbrev HasSeen : {T : Type 0} → BarrierPlace → PendingCall T → Option HoldKind → Type 0
HasSeen (BarrierPlace.Look m) c hold = seen_last Word.State c.own ≡ None
HasSeen (BarrierPlace.Arrive m seen to) c hold = seen_last Word.State c.own ≡ Some seen
HasSeen other c hold = Unit {0}

seen_kept : {T : Type 0} (n : ℕ) → IsKept {T = T} (barrier_table n) HasSeen
seen_kept n = grind (arith, nat_tests, eqb-true, eqb-false)

-- a call that has not arrived has no arrival
no_arrival : {T : Type 0} (own : List (Event T)) → arrivals_in own ≡ 0 → last_of is_arrival own ≡ None
no_arrival [] none = refl
no_arrival (e ∷ own) none = by_test (is_arrival e.act) none (no_arrival own)
  where
    by_test : (arrives : Bool) → cond arrives 1 0 + arrivals_in own ≡ 0 → (arrivals_in own ≡ 0 → last_of is_arrival own ≡ None) → cond arrives (Some e.act) (last_of is_arrival own) ≡ None
    by_test true none rest = absurd (omega (arith, none))
    by_test false none rest = rest (omega (arith, none))

-- how each step leaves its call, by its tests
look_outcome : {T : Type 0} (m v : ℕ) (below : Bool) → outcome_of {T = T} (look_after m v below) ≡ cond below Then.GoesOn (Then.Answers Answer.Full)
look_outcome m v below = grind (arith, nat_tests, eqb-true, eqb-false)

arrive_outcome :
    {T : Type 0} (m seen w : ℕ) (done : Bool) → outcome_of {T = T} (cond done (joined_after seen (count_of seen + 1 == m)) (look_after m w (nat_lt (count_of w) m))) ≡ cond done Then.GoesOn (looked m w)
arrive_outcome m seen w done = grind (arith, nat_tests, eqb-true, eqb-false)

stay_outcome : {T : Type 0} (epoch spins v : ℕ) (same left : Bool) → outcome_of {T = T} (stay_after epoch spins v same left) ≡ cond same (cond left Then.GoesOn (Then.Waits v)) (Then.Answers Answer.Ok)
stay_outcome epoch spins v same left = grind (arith, nat_tests, eqb-true, eqb-false)

barrier_step :
    {T : Type 0} (n : ℕ) (place : BarrierPlace) (c : PendingCall T) (hold : Option HoldKind) (memory : Word → ℕ) → AtBarrier n place c hold × HasSeen place c hold →
    BarrierStep {T = T} n c.call c.own (step_at (barrier_table n) place hold memory).act (step_at (barrier_table n) place hold memory).outcome
barrier_step n place c hold memory h1 = grind (arith, nat_tests, eqb-true, eqb-false, no_arrival, look_outcome, arrive_outcome, eq-eqb, eqb_other, stay_outcome)

each_steps : {T : Type 0} (z : Arithmetic T) (n parties : ℕ) (past : List (Event T)) → IsPast z (barrier_table n) parties past → StepsAs (BarrierStep n) past
each_steps z n parties past run =
    steps_as z (barrier_table n) parties (λ place c hold. AtBarrier n place c hold × HasSeen place c hold) (BarrierStep n)
    (both_kept (barrier_table n) (AtBarrier n) HasSeen (barrier_kept n) (seen_kept n)) (barrier_step n) past run

pub keeps_barrier : {T : Type 0} (z : Arithmetic T) (n parties : ℕ) (past : List (Event T)) → n < 2 ^ 32 → IsPast z (barrier_table n) parties past → KeepsBarrier n past
keeps_barrier z n parties [] fits run = record { told = tt; exclusive = exclusive_unheld [] refl; cause = tt; law = record { unheld = refl; counts = barrier_counts z n parties fits [] run; nobody = nobody_arrives z n parties [] run; passes = tt; wakes = tt; alone = tt; leaves = tt; exact = tt; waits = waits_first barrier_waiting; steps = tt } }
keeps_barrier z n parties (e ∷ past) fits run =
    let event = event_law z n parties fits past e run in
    let unheld = no_holds (barrier_table n) (λ call from to. refl) (e ∷ past) in
    record {
      told = tells_memory z (barrier_table n) parties (e ∷ past) run;
      exclusive = exclusive_unheld _ unheld;
      cause = event.cause;
      law = record {
        unheld = unheld;
        counts = barrier_counts z n parties fits (e ∷ past) run;
        nobody = nobody_arrives z n parties (e ∷ past) run;
        passes = event.passes;
        leaves = event.leaves;
        wakes = event.wakes;
        alone = event.alone;
        exact = event.exact;
        waits = waits_as barrier_waiting past e event.asks (spins_no_more z (barrier_table n) parties (AtBarrier n) steps_on (barrier_kept n) (spins_bounded n) (e ∷ past) run);
        steps = each_steps z n parties (e ∷ past) run;
      };
    }

-- a barrier has no other word
pub barrier_lacks : (T : Type 0) (n : ℕ) (word : Word) → same_word Word.State word ≡ false → Lacks {T = T} (barrier_table n) word
barrier_lacks T n word h1 = grind (arith, nat_tests, eqb-true, eqb-false)
