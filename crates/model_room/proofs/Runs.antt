-- The events of each object are a run of it, and a party calls at one object at a time.
use Rattle.model_room.proofs.Names.{◌≡◌, ◌≢◌, ℕ, ◌==◌, refl, sym, ◌∙◌, ap, subst, List, [], ◌∷◌, slice_get, Option, Some, None, is_some, true, false, ◌⊎◌, inl, inr, arith, eqb-true, eqb-false, eqb_tells, nat_tests, call_after, event, not, Arithmetic, call_of, Input, Object, Then, RoomEvent, events_of, is_answer, seat_after, seat_of, sits_at, sits_elsewhere, begins_elsewhere, IsNext, IsPlayed, IsPast, EachRuns, EachKeeps, SitsWhereItCalls, CallsAtOne}
use Rattle.model_events.specs.Exports.{Table, PendingCall, HasForm, fault_at, move_of}
use Rattle.model_events.specs.declared.{event.Act.Act, event.Word.Word, hold.HoldKind.HoldKind}
use Rattle.model_events.specs.Runs as runs
use Rattle.model_events.proofs.Parties.{fault_at_none}
use Rattle.sync_steps.specs.Objects.{table_of}
use Rattle.sync_steps.specs.Runs as steps
use Rattle.sync_steps.proofs.Objects.{headline}

-- what comes next at the event's object comes next at the object of this number
pub next_there :
    {T : Type 0} (z : Arithmetic T) (objects : List (Object T)) (parties : ℕ) (past : List (RoomEvent T)) (party j k : ℕ) (o : Object T) (input : Input T) (told : RoomEvent T) →
    j ≡ k → slice_get objects k ≡ Some o → IsNext z objects parties past party j input told → steps.IsNext z o parties (events_of k past) party input told.event
next_there {T} z objects parties past party j k o input told is there next =
    let same : next.of ≡ o = one_object next.of o (sym next.there ∙ ap (slice_get objects) is ∙ there) in
    subst (λ (x : Object T). steps.IsNext z x parties (events_of k past) party input told.event) same
    (subst (λ q. steps.IsNext z next.of parties (events_of q past) party input told.event) is next.next)
  where
    one_object : (x y : Object T) → Some x ≡ Some y → x ≡ y
    one_object x y is = cc

one_runs :
    {T : Type 0} (z : Arithmetic T) (objects : List (Object T)) (parties : ℕ) (past : List (RoomEvent T)) → IsPlayed z objects parties past →
    (k : ℕ) (o : Object T) → slice_get objects k ≡ Some o → runs.IsPast z (table_of z o) parties (events_of k past)
one_runs z objects parties [] played k o there = tt
one_runs {T} z objects parties (told ∷ past) played k o there = by_object (eqb_tells told.object k) (one_runs z objects parties past played.1 k o there)
  where
    by_object :
        (((told.object == k) ≡ true) × (told.object ≡ k)) ⊎ (((told.object == k) ≡ false) × (told.object ≢ k)) → runs.IsPast z (table_of z o) parties (events_of k past) →
        runs.IsPast z (table_of z o) parties (events_of k (told ∷ past))
    by_object (inl is) before = rw is.0 ((played.0.0, next_there z objects parties past told.event.party told.object k o played.0.0 told is.1 there played.0.1), before)
    by_object (inr other) before = rw other.0 before

pub each_runs : {T : Type 0} (z : Arithmetic T) (objects : List (Object T)) (parties : ℕ) (past : List (RoomEvent T)) → IsPast z objects parties past → EachRuns z objects parties past
each_runs z objects parties past run k o there = (run.0 k o there, one_runs z objects parties past run.1 k o there)

pub each_keeps : {T : Type 0} (z : Arithmetic T) (objects : List (Object T)) (parties : ℕ) (past : List (RoomEvent T)) → IsPast z objects parties past → EachKeeps z objects past
each_keeps z objects parties past run k o there = headline z o parties (events_of k past) (each_runs z objects parties past run k o there)

-- a run with what comes next is a run
pub next_past :
    {T : Type 0} (z : Arithmetic T) (objects : List (Object T)) (parties : ℕ) (past : List (RoomEvent T)) (party k : ℕ) (input : Input T) (told : RoomEvent T) → IsPast z objects parties past →
    IsNext z objects parties past party k input told → IsPast z objects parties (told ∷ past)
next_past z objects parties past party k input told run next =
    let here = subst (λ j. IsNext z objects parties past party j input told) (sym next.object_is) next in
    (run.0, ((input, subst (λ p. IsNext z objects parties past p told.object input told) (sym next.next.party_is) here), run.1))

-- An event leaves its call under way, unless it answers it.

call_goes_on :
    {T P : Type 0} (t : Table T P) (pending : Option (PendingCall T)) (hold : Option HoldKind) (memory : Word → ℕ) (input : Input T) (number : ℕ) (act : Act T) (outcome : Then T) →
    fault_at t pending hold input ≡ None → HasForm input act → move_of t pending hold memory input ≡ Some (record { act = act; outcome = outcome }) →
    is_some (call_after outcome (event number act outcome) pending) ≡ not (is_answer outcome)
call_goes_on t pending hold memory input number act outcome h1 h2 h3 = grind (arith, nat_tests, eqb-true, eqb-false)

-- and a step or an answer of a closure is of a call under way
called_before :
    {T P : Type 0} (t : Table T P) (pending : Option (PendingCall T)) (hold : Option HoldKind) (input : Input T) (k : ℕ) (seat : Option ℕ) →
    fault_at t pending hold input ≡ None → is_some pending ≡ sits_at k seat → begins_elsewhere input k seat ≡ false → sits_elsewhere k seat ≡ false
called_before t pending hold input k seat h1 h2 h3 = grind (arith, nat_tests, eqb-true, eqb-false)

elsewhere_not_here : (j k : ℕ) (seat : Option ℕ) → (j == k) ≡ false → sits_elsewhere j seat ≡ false → sits_at k seat ≡ false
elsewhere_not_here j k seat h1 h2 = grind (arith, nat_tests, eqb-true, eqb-false)

seated : {T : Type 0} (told : RoomEvent T) (k : ℕ) → (told.object == k) ≡ true → sits_at k (seat_after told) ≡ not (is_answer told.event.then)
seated told k h1 = grind (arith, nat_tests, eqb-true, eqb-false)

unseated : {T : Type 0} (told : RoomEvent T) (k : ℕ) → (told.object == k) ≡ false → sits_at k (seat_after told) ≡ false
unseated told k h1 = grind (arith, nat_tests, eqb-true, eqb-false)

-- the party of an event sat at no other object before
pub sat_there :
    {T : Type 0} (z : Arithmetic T) (objects : List (Object T)) (parties : ℕ) (past : List (RoomEvent T)) (party k : ℕ) (input : Input T) (told : RoomEvent T) → SitsWhereItCalls past →
    IsNext z objects parties past party k input told → sits_elsewhere k (seat_of party past) ≡ false
sat_there z objects parties past party k input told sits next =
    called_before (table_of z next.of) _ _ input k _ (fault_at_none (table_of z next.of) parties (events_of k past) party input next.next.allowed) (sits party k) next.free

pub sits : {T : Type 0} (z : Arithmetic T) (objects : List (Object T)) (parties : ℕ) (past : List (RoomEvent T)) → IsPlayed z objects parties past → SitsWhereItCalls past
sits z objects parties [] played party k = refl
sits {T} z objects parties (told ∷ past) played party k = by_both (eqb_tells told.event.party party) (eqb_tells told.object k) (sits z objects parties past played.1)
  where
    next : IsNext z objects parties past told.event.party told.object played.0.0 told
    next = played.0.1

    by_both :
        (((told.event.party == party) ≡ true) × (told.event.party ≡ party)) ⊎ (((told.event.party == party) ≡ false) × (told.event.party ≢ party)) →
        (((told.object == k) ≡ true) × (told.object ≡ k)) ⊎ (((told.object == k) ≡ false) × (told.object ≢ k)) → SitsWhereItCalls past →
        is_some (call_of party (events_of k (told ∷ past))) ≡ sits_at k (seat_of party (told ∷ past))
    by_both (inl own) (inl here) before =
        let t = table_of z next.of in
        let goes : is_some (call_after told.event.then told.event (call_of told.event.party (events_of told.object past))) ≡ not (is_answer told.event.then) =
        call_goes_on t _ _ _ played.0.0 told.event.party told.event.act told.event.then
        (fault_at_none t parties (events_of told.object past) told.event.party played.0.0 next.next.allowed) next.next.form next.next.moved in
        let own_goes = subst (λ p. is_some (call_after told.event.then told.event (call_of p (events_of told.object past))) ≡ not (is_answer told.event.then)) own.1 goes in
        let here_goes = subst (λ j. is_some (call_after told.event.then told.event (call_of party (events_of j past))) ≡ not (is_answer told.event.then)) here.1 own_goes in
        rw (own.0, here.0, own.0) (here_goes ∙ sym (seated told k here.0))
    by_both (inl own) (inr there) before =
        let free : sits_elsewhere told.object (seat_of party past) ≡ false = subst (λ p. sits_elsewhere told.object (seat_of p past) ≡ false) own.1 (sat_there z objects parties past told.event.party told.object played.0.0 told before next) in
        rw (own.0, there.0) (before party k ∙ elsewhere_not_here told.object k (seat_of party past) there.0 free ∙ sym (unseated told k there.0))
    by_both (inr other) (inl here) before = rw (other.0, here.0, other.0) (before party k)
    by_both (inr other) (inr there) before = rw (other.0, there.0) (before party k)

one_seat : (j k : ℕ) (seat : Option ℕ) → sits_at j seat ≡ true → sits_at k seat ≡ true → j ≡ k
one_seat j k seat h1 h2 = grind (arith, nat_tests, eqb-true, eqb-false)

pub calls_at_one : {T : Type 0} (z : Arithmetic T) (objects : List (Object T)) (parties : ℕ) (past : List (RoomEvent T)) → IsPast z objects parties past → CallsAtOne past
calls_at_one z objects parties past run party j k here there =
    let at = sits z objects parties past run.1 party in one_seat j k (seat_of party past) (sym (at j) ∙ here) (sym (at k) ∙ there)
