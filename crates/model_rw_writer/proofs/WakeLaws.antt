-- Readers are woken: whoever makes the word even owes a wake of all until it has called it.
use Rattle.model_rw_writer.proofs.Names.{eqb-false, nat_tests, ◌≡◌, ◌≢◌, ℕ, ◌==◌, refl, sym, ◌∙◌, ap, subst, Bool, true, false, cond, ◌&&◌, ◌||◌, List, [], ◌∷◌, Option, Some, None, ◌⊎◌, inl, inr, arith, eqb-true, eq-eqb, eqb_tells, call_of_same, call_of_other, by_move, fault_at_none, longer, nat_lt, not, WaitAction, Word, Call, Act, Event, Input, Then, HoldKind, After, Arithmetic, carried_out, value_told, outcome_of, place_after, PendingCall, call_of, call_after, call_going_on, Hold, holds_of, hold_of, word_in, word_after, event, latest_outcome, writes_in, is_beginning, Move, step_at, stage_of, IsPast, Leaver, RwWriterPlace, is_odd, rw_writer_table, rw_writer_answered, is_marked_after, CountsHolds, is_answer, is_even_after, makes_even, wakes_all, owes_wake, Evener, evener_after, evener_of, ReaderStands, ReadersAreWoken}
use Rattle.model_rw_writer.proofs.BoolLaws.{clash, neither}
use Rattle.model_rw_writer.proofs.PlaceLaws.{AtRwWriter, here}
use Rattle.model_rw_writer.proofs.StageLaws.{same_call, IsAt, fact_here, begins_none, answered_at, chosen_at, stepped_at}
use Rattle.model_rw_writer.proofs.Laws.{writer_lock_word}

-- What the word says: it is even exactly where neither a write hold stands nor the mark is set.

word_evens : (w : ℕ) (holds : List Hold) (marked : Bool) → CountsHolds w holds marked → not (nat_lt 0 (writes_in holds) || marked) ≡ not (is_odd w)
word_evens w holds marked h1 = grind (arith, nat_tests, eqb-true, eqb-false)

even_at : {T : Type 0} (z : Arithmetic T) (parties : ℕ) (past : List (Event T)) → IsPast z rw_writer_table parties past → is_even_after past ≡ not (is_odd (word_in rw_writer_table past Word.State))
even_at z parties past run = word_evens (word_in rw_writer_table past Word.State) (holds_of rw_writer_table past) (is_marked_after past) (writer_lock_word z parties past run).counts

-- an event makes the word even
abbrev Evens : {T : Type 0} → ℕ → Act T → Type 0
Evens w act = (is_odd w ≡ true) × (is_odd (word_after Word.State act w) ≡ false)

-- who leaves and wakes all
abbrev WakesAll : Leaver → Type 0
WakesAll Leaver.Reader = ⊥
WakesAll Leaver.Writer = Unit {0}
WakesAll Leaver.GivenUp = Unit {0}

-- on the way to the wake of all
abbrev IsWaking : RwWriterPlace → Type 0
IsWaking (RwWriterPlace.Count who) = WakesAll who
IsWaking (RwWriterPlace.WakeOne who) = WakesAll who
IsWaking (RwWriterPlace.WakeAll who) = WakesAll who
IsWaking place = ⊥

pub record LeadsToWake {T : Type 0} (act : Act T) (a : After T RwWriterPlace) : Type 0 where
  pub next : RwWriterPlace
  pub leads : a ≡ After.At next
  pub waking : IsWaking next
  pub is_before : wakes_all act ≡ false

evens :
    {T : Type 0} (place : RwWriterPlace) (c : PendingCall T) (hold : Option HoldKind) (memory : Word → ℕ) → AtRwWriter place c hold → Evens (memory Word.State) (step_at {T = T} rw_writer_table place hold memory).act →
    LeadsToWake (step_at {T = T} rw_writer_table place hold memory).act (rw_writer_table.after place (value_told {T = T} (carried_out (rw_writer_table.intent place hold) memory)))
evens place c hold memory h1 h2 = grind (arith, nat_tests, eqb-true, eqb-false)

-- from there each step leads on, up to the wake
waking_step :
    {T : Type 0} (place : RwWriterPlace) (hold : Option HoldKind) (memory : Word → ℕ) → IsWaking place →
    (wakes_all (step_at {T = T} rw_writer_table place hold memory).act ≡ true) ⊎ LeadsToWake (step_at {T = T} rw_writer_table place hold memory).act (rw_writer_table.after place (value_told {T = T} (carried_out (rw_writer_table.intent place hold) memory)))
waking_step place hold memory h1 = grind (arith, nat_tests, eqb-true, eqb-false)

-- Who owes a wake of all is on the way to it.

abbrev OwesWakeAt : {T : Type 0} → Option (PendingCall T) → Type 0
OwesWakeAt {T} pending = IsAt (λ (place : RwWriterPlace) (own : List (Event T)). IsWaking place) pending

answered_waking : (place : RwWriterPlace) (action : WaitAction) → IsWaking place → IsWaking (rw_writer_answered place action)
answered_waking place action h1 = grind (arith, nat_tests, eqb-true, eqb-false)

stepped_owes :
    {T : Type 0} (r : ℕ) (c : PendingCall T) (place : RwWriterPlace) (hold : Option HoldKind) (memory : Word → ℕ) → stage_of rw_writer_table c ≡ Some place →
    LeadsToWake (step_at {T = T} rw_writer_table place hold memory).act (rw_writer_table.after place (value_told {T = T} (carried_out (rw_writer_table.intent place hold) memory))) →
    OwesWakeAt (call_after (step_at rw_writer_table place hold memory).outcome (event r (step_at rw_writer_table place hold memory).act (step_at rw_writer_table place hold memory).outcome) (Some c))
stepped_owes {T} r c place hold memory stage led =
    stepped_at (λ (next : RwWriterPlace) (own : List (Event T)). IsWaking next) r c place led.next hold memory stage (ap place_after led.leads) (λ e is. led.waking)

-- what an event leaves of a party that owes, or has just made the word even: it owes on, and has not answered, unless it woke all
own_owes :
    {T : Type 0} (z : Arithmetic T) (parties : ℕ) (past : List (Event T)) (e : Event T) → IsPast z rw_writer_table parties (e ∷ past) → OwesWakeAt (call_of e.party past) ⊎ Evens (word_in rw_writer_table past Word.State) e.act →
    (wakes_all e.act ≡ true) ⊎ (OwesWakeAt (call_after e.then e (call_of e.party past)) × (is_answer e.then ≡ false) × (wakes_all e.act ≡ false))
own_owes {T} z parties past e run why =
    by_move rw_writer_table (call_of e.party past) (hold_of rw_writer_table e.party past) (word_in rw_writer_table past)
    (λ (k : Option (PendingCall T)) (x : Move T). OwesWakeAt k ⊎ Evens w x.act → (wakes_all x.act ≡ true) ⊎ (OwesWakeAt (call_after x.outcome (event e.party x.act x.outcome) k) × (is_answer x.outcome ≡ false) × (wakes_all x.act ≡ false)))
    run.0.0 (record { act = e.act; outcome = e.then })
    (λ call is was. begun call is was)
    (λ action _ was. inr (answered action was, refl, refl))
    (λ choice _ was. inr (chosen choice was, refl, refl))
    (λ c place _ called stage was. stepped c place called stage was)
    run.0.1.moved why
  where
    w : ℕ
    w = word_in rw_writer_table past Word.State

    begun : (call : Call T) → run.0.0 ≡ Input.Begin call → OwesWakeAt (call_of e.party past) ⊎ Evens w (Act.Begun call) →
        (wakes_all (Act.Begun call) ≡ true) ⊎ (OwesWakeAt (call_going_on (Act.Begun call) (event e.party (Act.Begun call) Then.GoesOn) (call_of e.party past)) × (false ≡ false) × (false ≡ false))
    begun call is (inl owes) = absurd (begins_none (call_of e.party past) owes.call (hold_of rw_writer_table e.party past) call run.0.0 owes.under_way (fault_at_none rw_writer_table parties past e.party run.0.0 run.0.1.allowed) is)
    begun call is (inr so) = clash (is_odd w) so.0 so.1

    answered : (action : WaitAction) → OwesWakeAt (call_of e.party past) ⊎ Evens {T = T} w (Act.Answered action) → OwesWakeAt (call_going_on (Act.Answered action) (event e.party (Act.Answered action) Then.GoesOn) (call_of e.party past))
    answered action (inl owes) = answered_at (λ (place : RwWriterPlace) (own : List (Event T)). IsWaking place) e.party action (call_of e.party past) (λ place own d waking. answered_waking place action waking) owes
    answered action (inr so) = clash (is_odd w) so.0 so.1

    chosen : (choice : Option T) → OwesWakeAt (call_of e.party past) ⊎ Evens w (Act.Chosen choice) → OwesWakeAt (call_going_on (Act.Chosen choice) (event e.party (Act.Chosen choice) Then.GoesOn) (call_of e.party past))
    chosen choice (inl owes) = chosen_at (λ (place : RwWriterPlace) (own : List (Event T)). IsWaking place) e.party choice (call_of e.party past) (λ place own d waking. waking) owes
    chosen choice (inr so) = clash (is_odd w) so.0 so.1

    stepped : (c : PendingCall T) (place : RwWriterPlace) → call_of e.party past ≡ Some c → stage_of rw_writer_table c ≡ Some place →
        OwesWakeAt (Some c) ⊎ Evens {T = T} w (step_at {T = T} rw_writer_table place (hold_of rw_writer_table e.party past) (word_in rw_writer_table past)).act →
        (wakes_all (step_at {T = T} rw_writer_table place (hold_of rw_writer_table e.party past) (word_in rw_writer_table past)).act ≡ true)
        ⊎ (OwesWakeAt (call_after (step_at {T = T} rw_writer_table place (hold_of rw_writer_table e.party past) (word_in rw_writer_table past)).outcome (event e.party (step_at {T = T} rw_writer_table place (hold_of rw_writer_table e.party past) (word_in rw_writer_table past)).act (step_at {T = T} rw_writer_table place (hold_of rw_writer_table e.party past) (word_in rw_writer_table past)).outcome) (Some c))
        × (is_answer (step_at {T = T} rw_writer_table place (hold_of rw_writer_table e.party past) (word_in rw_writer_table past)).outcome ≡ false) × (wakes_all (step_at {T = T} rw_writer_table place (hold_of rw_writer_table e.party past) (word_in rw_writer_table past)).act ≡ false))
    stepped c place called stage (inl owes) = by_step (waking_step {T = T} place (hold_of rw_writer_table e.party past) (word_in rw_writer_table past) (fact_here (λ (at : RwWriterPlace) (own : List (Event T)). IsWaking at) c place stage owes))
      where
        by_step : (wakes_all (step_at {T = T} rw_writer_table place (hold_of rw_writer_table e.party past) (word_in rw_writer_table past)).act ≡ true) ⊎ LeadsToWake (step_at {T = T} rw_writer_table place (hold_of rw_writer_table e.party past) (word_in rw_writer_table past)).act (rw_writer_table.after place (value_told {T = T} (carried_out (rw_writer_table.intent place (hold_of rw_writer_table e.party past)) (word_in rw_writer_table past)))) →
            (wakes_all (step_at {T = T} rw_writer_table place (hold_of rw_writer_table e.party past) (word_in rw_writer_table past)).act ≡ true)
            ⊎ (OwesWakeAt (call_after (step_at {T = T} rw_writer_table place (hold_of rw_writer_table e.party past) (word_in rw_writer_table past)).outcome (event e.party (step_at {T = T} rw_writer_table place (hold_of rw_writer_table e.party past) (word_in rw_writer_table past)).act (step_at {T = T} rw_writer_table place (hold_of rw_writer_table e.party past) (word_in rw_writer_table past)).outcome) (Some c))
            × (is_answer (step_at {T = T} rw_writer_table place (hold_of rw_writer_table e.party past) (word_in rw_writer_table past)).outcome ≡ false) × (wakes_all (step_at {T = T} rw_writer_table place (hold_of rw_writer_table e.party past) (word_in rw_writer_table past)).act ≡ false))
        by_step (inl wakes) = inl wakes
        by_step (inr led) = inr (stepped_owes e.party c place (hold_of rw_writer_table e.party past) (word_in rw_writer_table past) stage led, ap (λ (b : After T RwWriterPlace). is_answer (outcome_of b)) led.leads, led.is_before)
    stepped c place called stage (inr so) =
        let led = evens place c (hold_of rw_writer_table e.party past) (word_in rw_writer_table past) (here z parties past run.1 e.party c place called stage) so in
        inr (stepped_owes e.party c place (hold_of rw_writer_table e.party past) (word_in rw_writer_table past) stage led, ap (λ (b : After T RwWriterPlace). is_answer (outcome_of b)) led.leads, led.is_before)

which : (evens_now owed : Bool) → cond evens_now true owed ≡ true → (evens_now ≡ true) ⊎ (owed ≡ true)
which evens_now owed h1 = grind (arith, nat_tests, eqb-true, eqb-false)

both : (a b : Bool) → (not a && b) ≡ true → (a ≡ false) × (b ≡ true)
both a b h1 = grind (arith, nat_tests, eqb-true, eqb-false)

flipped : (a b : Bool) → a ≡ not b → a ≡ true → b ≡ false
flipped a b h1 h2 = grind (arith, nat_tests, eqb-true, eqb-false)

flipped_back : (a b : Bool) → a ≡ not b → a ≡ false → b ≡ true
flipped_back a b h1 h2 = grind (arith, nat_tests, eqb-true, eqb-false)

evens_word : {T : Type 0} (z : Arithmetic T) (parties : ℕ) (past : List (Event T)) (e : Event T) → IsPast z rw_writer_table parties (e ∷ past) → makes_even e past ≡ true → Evens (word_in rw_writer_table past Word.State) e.act
evens_word z parties past e run makes =
    let so = both (is_even_after past) (is_even_after (e ∷ past)) makes in (
      flipped_back (is_even_after past) (is_odd (word_in rw_writer_table past Word.State)) (even_at z parties past run.1) so.0,
      flipped (is_even_after (e ∷ past)) (is_odd (word_in rw_writer_table (e ∷ past) Word.State)) (even_at z parties (e ∷ past) run) so.1,
    )

owes_wake_at : {T : Type 0} (z : Arithmetic T) (parties : ℕ) (past : List (Event T)) → IsPast z rw_writer_table parties past → (q : ℕ) → owes_wake q past ≡ true → OwesWakeAt (call_of q past)
owes_wake_at z parties [] run q owes = absurd cc
owes_wake_at {T} z parties (e ∷ past) run q owes = by_party (owes_wake_at z parties past run.1) (eqb_tells e.party q)
  where
    Before : Type 0
    Before = (p : ℕ) → owes_wake p past ≡ true → OwesWakeAt (call_of p past)

    after_own : Bool
    after_own = cond (is_answer e.then || wakes_all e.act) false (cond (makes_even e past) true (owes_wake q past))

    mine : Before → e.party ≡ q → after_own ≡ true → OwesWakeAt (call_of q (e ∷ past))
    mine before is owed = on (neither (is_answer e.then) (wakes_all e.act) (cond (makes_even e past) true (owes_wake q past)) owed)
      where
        why : Before → e.party ≡ q → (makes_even e past ≡ true) ⊎ (owes_wake q past ≡ true) → OwesWakeAt (call_of e.party past) ⊎ Evens (word_in rw_writer_table past Word.State) e.act
        why earlier same (inl makes) = inr (evens_word z parties past e run makes)
        why earlier same (inr owed_before) = inl (subst (λ p. OwesWakeAt (call_of p past)) (sym same) (earlier q owed_before))

        by_own : (wakes_all e.act ≡ false) → (wakes_all e.act ≡ true) ⊎ (OwesWakeAt (call_after e.then e (call_of e.party past)) × (is_answer e.then ≡ false) × (wakes_all e.act ≡ false)) → OwesWakeAt (call_of q (e ∷ past))
        by_own quiet (inl woke) = clash (wakes_all e.act) woke quiet
        by_own quiet (inr after) =
            let later : OwesWakeAt (call_of e.party (e ∷ past)) = subst (λ (k : Option (PendingCall T)). OwesWakeAt k) (sym (call_of_same e.party e.act e.then past)) after.0 in
            subst (λ p. OwesWakeAt (call_of p (e ∷ past))) is later

        on : (wakes_all e.act ≡ false) × (cond (makes_even e past) true (owes_wake q past) ≡ true) → OwesWakeAt (call_of q (e ∷ past))
        on so = by_own so.0 (own_owes z parties past e run (why before is (which (makes_even e past) (owes_wake q past) so.1)))

    by_party : Before → (((e.party == q) ≡ true) × (e.party ≡ q)) ⊎ (((e.party == q) ≡ false) × (e.party ≢ q)) → OwesWakeAt (call_of q (e ∷ past))
    by_party before (inl is) = mine before is.1 (subst (λ b. cond b after_own (owes_wake q past) ≡ true) is.0 owes)
    by_party before (inr other) =
        let owed : owes_wake q past ≡ true = subst (λ b. cond b after_own (owes_wake q past) ≡ true) other.0 owes in
        subst (λ (k : Option (PendingCall T)). OwesWakeAt k) (sym (call_of_other e.party q e.act e.then past (λ same. other.1 (sym same)))) (before q owed)

-- Who made the word even last has woken all since, or owes it.

abbrev IsEvener : {T : Type 0} → List (Event T) → Evener → Type 0
IsEvener past evener = (evener.woke ≡ true) ⊎ (owes_wake evener.party past ≡ true)

some_evener : (a b : Evener) → Some a ≡ Some b → a ≡ b
some_evener a b is = cc

made_now : (b answer wake now rest : Bool) → b ≡ true → answer ≡ false → wake ≡ false → now ≡ true → cond b (cond (answer || wake) false (cond now true rest)) rest ≡ true
made_now b answer wake now rest p q r s = rw (p, q, r, s) refl

kept_apart : (b answer wake now rest : Bool) → rest ≡ true → b ≡ false → cond b (cond (answer || wake) false (cond now true rest)) rest ≡ true
kept_apart b answer wake now rest is apart = rw apart is

kept_own : (b answer wake now rest : Bool) → rest ≡ true → answer ≡ false → wake ≡ false → cond b (cond (answer || wake) false (cond now true rest)) rest ≡ true
kept_own b answer wake now rest h1 h2 h3 = grind (arith, nat_tests, eqb-true, eqb-false)

woke_still : (a b : Bool) → a ≡ true → (a || b) ≡ true
woke_still a b is = rw is refl

woke_now : (a b c : Bool) → b ≡ true → c ≡ true → (a || (b && c)) ≡ true
woke_now a b c h1 h2 = grind (arith, nat_tests, eqb-true, eqb-false)

evener_law : {T : Type 0} (z : Arithmetic T) (parties : ℕ) (past : List (Event T)) → IsPast z rw_writer_table parties past → (evener : Evener) → evener_of past ≡ Some evener → IsEvener past evener
evener_law z parties [] run evener is = absurd cc
evener_law {T} z parties (e ∷ past) run evener is = by_makes (evener_law z parties past run.1) (makes_even e past) refl is
  where
    Before : Type 0
    Before = (ev : Evener) → evener_of past ≡ Some ev → IsEvener past ev

    fresh : makes_even e past ≡ true → (wakes_all e.act ≡ true) ⊎ (OwesWakeAt (call_after e.then e (call_of e.party past)) × (is_answer e.then ≡ false) × (wakes_all e.act ≡ false)) → wakes_all e.act ≡ false → owes_wake e.party (e ∷ past) ≡ true
    fresh makes (inl woke) silent = clash (wakes_all e.act) woke silent
    fresh makes (inr owes) silent = made_now (e.party == e.party) (is_answer e.then) (wakes_all e.act) (makes_even e past) (owes_wake e.party past) (eq-eqb e.party e.party refl) owes.1 silent makes

    -- a wake changes no word
    silent_evens : (b : Bool) → wakes_all e.act ≡ b → Evens (word_in rw_writer_table past Word.State) e.act → wakes_all e.act ≡ false
    silent_evens false woke so = woke
    silent_evens true woke so = by_act e.act woke so
      where
        by_act : (act : Act T) → wakes_all act ≡ true → Evens (word_in rw_writer_table past Word.State) act → wakes_all e.act ≡ false
        by_act (Act.Woke wake) is_wake evens_so = clash (is_odd (word_in rw_writer_table past Word.State)) evens_so.0 evens_so.1
        by_act act is_wake evens_so = absurd cc

    by_wake : (ev : Evener) → (b : Bool) → wakes_all e.act ≡ b → (e.party == ev.party) ≡ true → IsEvener past ev → IsEvener (e ∷ past) (record { party = ev.party; woke = ev.woke || ((e.party == ev.party) && wakes_all e.act) })
    by_wake ev b wakes same (inl woke) = inl (woke_still ev.woke ((e.party == ev.party) && wakes_all e.act) woke)
    by_wake ev true wakes same (inr owes) = inl (woke_now ev.woke (e.party == ev.party) (wakes_all e.act) same wakes)
    by_wake ev false wakes same (inr owes) =
        let party_is : e.party ≡ ev.party = eqb-true e.party ev.party same in
        let owing : OwesWakeAt (call_of e.party past) = owes_wake_at z parties past run.1 e.party (subst (λ q. owes_wake q past ≡ true) (sym party_is) owes) in
        on (own_owes z parties past e run (inl owing))
      where
        on : (wakes_all e.act ≡ true) ⊎ (OwesWakeAt (call_after e.then e (call_of e.party past)) × (is_answer e.then ≡ false) × (wakes_all e.act ≡ false)) → IsEvener (e ∷ past) (record { party = ev.party; woke = ev.woke || ((e.party == ev.party) && wakes_all e.act) })
        on (inl woke) = clash (wakes_all e.act) woke wakes
        on (inr after) = inr (kept_own (e.party == ev.party) (is_answer e.then) (wakes_all e.act) (makes_even e past) (owes_wake ev.party past) owes after.1 wakes)

    by_evener : (ev : Evener) (b : Bool) → (e.party == ev.party) ≡ b → IsEvener past ev → IsEvener (e ∷ past) (record { party = ev.party; woke = ev.woke || ((e.party == ev.party) && wakes_all e.act) })
    by_evener ev true same law = by_wake ev (wakes_all e.act) refl same law
    by_evener ev false apart (inl woke) = inl (woke_still ev.woke ((e.party == ev.party) && wakes_all e.act) woke)
    by_evener ev false apart (inr owes) = inr (kept_apart (e.party == ev.party) (is_answer e.then) (wakes_all e.act) (makes_even e past) (owes_wake ev.party past) owes apart)

    by_old : Before → (old : Option Evener) → evener_of past ≡ old → evener_after e old ≡ Some evener → IsEvener (e ∷ past) evener
    by_old before None was now = absurd cc
    by_old before (Some ev) was now =
        let later : Evener = record { party = ev.party; woke = ev.woke || ((e.party == ev.party) && wakes_all e.act) } in
        subst (λ v. IsEvener (e ∷ past) v) (some_evener later evener now) (by_evener ev (e.party == ev.party) refl (before ev was))

    by_makes : Before → (b : Bool) → makes_even e past ≡ b → cond b (Some (record { party = e.party; woke = false })) (evener_after e (evener_of past)) ≡ Some evener → IsEvener (e ∷ past) evener
    by_makes before true makes now =
        let so = evens_word z parties past e run makes in
        let silent = silent_evens (wakes_all e.act) refl so in
        let first : Evener = record { party = e.party; woke = false } in
        subst (λ v. IsEvener (e ∷ past) v) (some_evener first evener now) (inr (fresh makes (own_owes z parties past e run (inr so)) silent))
    by_makes before false makes now = by_old before (evener_of past) refl now

-- Where a reader stood that saw an odd word, the word is odd, or somebody has made it even since.

read_step :
    {T : Type 0} (place : RwWriterPlace) (c : PendingCall T) (hold : Option HoldKind) (memory : Word → ℕ) (seen : ℕ) → AtRwWriter place c hold → c.call ≡ Call.ReadLock → (step_at {T = T} rw_writer_table place hold memory).outcome ≡ Then.Waits seen →
    (memory Word.State ≡ seen) × (word_after Word.State (step_at {T = T} rw_writer_table place hold memory).act (memory Word.State) ≡ memory Word.State)
read_step place c hold memory seen h1 h2 h3 = grind (arith, nat_tests, eqb-true, eqb-false)

own_reads :
    {T : Type 0} (z : Arithmetic T) (parties seen : ℕ) (past : List (Event T)) (e : Event T) → IsPast z rw_writer_table parties (e ∷ past) → (c : PendingCall T) → call_of e.party past ≡ Some c → c.call ≡ Call.ReadLock → e.then ≡ Then.Waits seen →
    (word_in rw_writer_table past Word.State ≡ seen) × (word_in rw_writer_table (e ∷ past) Word.State ≡ word_in rw_writer_table past Word.State)
own_reads {T} z parties seen past e run c called reads waits =
    by_move rw_writer_table (call_of e.party past) (hold_of rw_writer_table e.party past) (word_in rw_writer_table past)
    (λ (k : Option (PendingCall T)) (x : Move T). k ≡ Some c → x.outcome ≡ Then.Waits seen → (word_in rw_writer_table past Word.State ≡ seen) × (word_after Word.State x.act (word_in rw_writer_table past Word.State) ≡ word_in rw_writer_table past Word.State))
    run.0.0 (record { act = e.act; outcome = e.then }) (λ call _ is stands. absurd cc) (λ action _ is stands. absurd cc) (λ choice _ is stands. absurd cc)
    (λ d place _ here_called stage is stands.
    read_step place d (hold_of rw_writer_table e.party past) (word_in rw_writer_table past) seen (here z parties past run.1 e.party d place here_called stage) (subst (λ (k : PendingCall T). k.call ≡ Call.ReadLock) (sym (same_call d c is)) reads) stands)
    run.0.1.moved called waits

abbrev WasEvened : {T : Type 0} → List (Event T) → Type 0
WasEvened past = (is_odd (word_in rw_writer_table past Word.State) ≡ true) ⊎ ((evener : Evener) × (evener_of past ≡ Some evener))

still_evened : {T : Type 0} (z : Arithmetic T) (parties : ℕ) (past : List (Event T)) (e : Event T) → IsPast z rw_writer_table parties (e ∷ past) → WasEvened past → WasEvened (e ∷ past)
still_evened {T} z parties past e run (inr was) = by_makes (makes_even e past) refl
  where
    by_makes : (b : Bool) → makes_even e past ≡ b → WasEvened (e ∷ past)
    by_makes true makes = inr (record { party = e.party; woke = false }, rw makes refl)
    by_makes false makes = inr (record { party = was.0.party; woke = was.0.woke || ((e.party == was.0.party) && wakes_all e.act) }, rw (makes, was.1) refl)
still_evened {T} z parties past e run (inl odd) = by_word (is_odd (word_in rw_writer_table (e ∷ past) Word.State)) refl
  where
    turned : (a b odd_before odd_after : Bool) → a ≡ not odd_before → b ≡ not odd_after → odd_before ≡ true → odd_after ≡ false → (not a && b) ≡ true
    turned a b odd_before odd_after p q r s = rw (p, q, r, s) refl

    by_word : (b : Bool) → is_odd (word_in rw_writer_table (e ∷ past) Word.State) ≡ b → WasEvened (e ∷ past)
    by_word true is = inl is
    by_word false is =
        let makes : makes_even e past ≡ true = turned (is_even_after past) (is_even_after (e ∷ past)) (is_odd (word_in rw_writer_table past Word.State)) (is_odd (word_in rw_writer_table (e ∷ past) Word.State)) (even_at z parties past run.1) (even_at z parties (e ∷ past) run) odd is in
        inr (record { party = e.party; woke = false }, rw makes refl)

evened : {T : Type 0} (z : Arithmetic T) (parties : ℕ) (past : List (Event T)) → IsPast z rw_writer_table parties past → (party seen : ℕ) → ReaderStands party seen past → is_odd seen ≡ true → WasEvened past
evened z parties [] run party seen stands odd = let nothing = stands.under_way in absurd cc
evened {T} z parties (e ∷ past) run party seen stands odd = by_party (evened z parties past run.1 party seen) (eqb_tells e.party party)
  where
    mine : e.party ≡ party → (stands.call.own ≡ []) ⊎ ((own : List (Event T)) × (call_of e.party past ≡ Some (record { call = stands.call.call; own = own })) × (stands.call.own ≡ e ∷ own) × (is_beginning e.act ≡ false)) → WasEvened (e ∷ past)
    mine is (inl nothing) = let no : ◌≡◌ {A = Then T} Then.GoesOn (Then.Waits seen) = subst (λ (o : List (Event T)). latest_outcome o ≡ Then.Waits seen) nothing stands.stands in absurd cc
    mine is (inr more) =
        let waits : e.then ≡ Then.Waits seen = subst (λ (o : List (Event T)). latest_outcome o ≡ Then.Waits seen) more.2 stands.stands in
        let told = own_reads z parties seen past e run (record { call = stands.call.call; own = more.0 }) more.1 stands.reads waits in
        inl (ap is_odd (told.1 ∙ told.0) ∙ odd)

    by_party : (ReaderStands party seen past → is_odd seen ≡ true → WasEvened past) → (((e.party == party) ≡ true) × (e.party ≡ party)) ⊎ (((e.party == party) ≡ false) × (e.party ≢ party)) → WasEvened (e ∷ past)
    by_party before (inl is) =
        let under_way : call_of e.party (e ∷ past) ≡ Some stands.call = subst (λ q. call_of q (e ∷ past) ≡ Some stands.call) (sym is.1) stands.under_way in
        mine is.1 (longer e.then e (call_of e.party past) stands.call (sym (call_of_same e.party e.act e.then past) ∙ under_way))
    by_party before (inr other) =
        let was : call_of party past ≡ Some stands.call = sym (call_of_other e.party party e.act e.then past (λ same. other.1 (sym same))) ∙ stands.under_way in
        still_evened z parties past e run (before (record { call = stands.call; under_way = was; reads = stands.reads; stands = stands.stands }) odd)

pub readers_are_woken : {T : Type 0} (z : Arithmetic T) (parties : ℕ) (past : List (Event T)) → IsPast z rw_writer_table parties past → ReadersAreWoken past
readers_are_woken {T} z parties past run party seen stands odd even = by_evened (evened z parties past run party seen stands odd)
  where
    by_evened : WasEvened past → (evener : Evener) × (evener_of past ≡ Some evener) × ((evener.woke ≡ true) ⊎ (owes_wake evener.party past ≡ true))
    by_evened (inl still) = clash (is_odd (word_in rw_writer_table past Word.State)) still (flipped (is_even_after past) (is_odd (word_in rw_writer_table past Word.State)) (even_at z parties past run) even)
    by_evened (inr was) = (was.0, was.1, evener_law z parties past run was.0 was.1)
