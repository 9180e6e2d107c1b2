-- A step of one machine leads from where a run of all stands to where it stands with one more event.
use Rattle.model_room.proofs.Names.{◌≡◌, ◌≢◌, ℕ, ◌<◌, ◌≤◌, refl, sym, ◌∙◌, ap, subst, zero, suc, List, [], ◌∷◌, length, get_or, slice_get, slice_set, Option, Some, None, false, ◌⊎◌, inl, inr, arith, eqb-true, eqb-false, eqb_tells, eqb_same, eqb_other, nat_tests, length-set, length-replicate, lt-ltb, slice_get-get_or, Arithmetic, Event, Input, Object, StepFault, RoomEvent, RoomFault, events_of, seat_left, seat_of, begins_elsewhere, at_step, IsNext, IsPlayed, IsPast, replicate, ◌++◌, slice_get_within, Seating, StandsAt, Steps, RefusesStep, KeepsHeadlines}
use Rattle.sync_steps.specs.Machine.{Configuration}
use Rattle.sync_steps.specs.Machine as machines
use Rattle.sync_steps.specs.Runs as steps
use Rattle.sync_steps.proofs.Stands.{slice_get-set_same, slice_get-set_other}
use Rattle.model_room.proofs.Runs.{each_keeps, next_past}
use Rattle.model_events.specs.Exports.{Table}
use Rattle.model_events.specs.Moves as moves
use Rattle.sync_steps.specs.Objects.{table_of}

pub one_value : {A : Type 0} (x y : A) → Some x ≡ Some y → x ≡ y
one_value x y is = cc

-- the room after a step of one of its machines
abbrev pub with_step : {T : Type 0} → Seating T → ℕ → Configuration T → ℕ → Option ℕ → Seating T
with_step own k machine party seat = record { machines = slice_set own.machines k machine; seats = slice_set own.seats party seat }

-- the event at the object
abbrev pub at : {T : Type 0} → ℕ → Event T → RoomEvent T
at k e = record { object = k; event = e }

pub own_more : {T : Type 0} (k : ℕ) (e : Event T) (past : List (RoomEvent T)) → events_of k (at k e ∷ past) ≡ e ∷ events_of k past
own_more k e past = rw (eqb_same k) refl

pub other_more : {T : Type 0} (k q : ℕ) (e : Event T) (past : List (RoomEvent T)) → q ≢ k → events_of q (at k e ∷ past) ≡ events_of q past
other_more k q e past other = rw (eqb_other k q other) refl

pub seat_more : {T : Type 0} (k : ℕ) (e : Event T) (p : ℕ) (past : List (RoomEvent T)) → e.party ≡ p → seat_of p (at k e ∷ past) ≡ seat_left k e.then
seat_more k e p past is = rw (is, eqb_same p) refl

pub unseated_more : {T : Type 0} (k : ℕ) (e : Event T) (p : ℕ) (past : List (RoomEvent T)) → e.party ≢ p → seat_of p (at k e ∷ past) ≡ seat_of p past
unseated_more k e p past other = rw (eqb_other e.party p (λ is. other (sym is))) refl

-- the room stands where the run of one object goes on, and the others are as they were
pub stands_on :
    {T : Type 0} (z : Arithmetic T) (objects : List (Object T)) (parties : ℕ) (past now : List (RoomEvent T)) (old : Seating T) (party k : ℕ) (o : Object T) (d : Configuration T) (left : Option ℕ) →
    StandsAt z objects parties past old → k < length old.machines → party < length old.seats → slice_get objects k ≡ Some o → IsPast z objects parties now → machines.StandsAt z o parties (events_of k now) d →
    ((q : ℕ) → q ≢ k → events_of q now ≡ events_of q past) → seat_of party now ≡ left → ((p : ℕ) → p ≢ party → seat_of p now ≡ seat_of p past) →
    StandsAt z objects parties now (with_step old k d party left)
stands_on {T} z objects parties past now old party k o d left from within seat_within there run stands others sits seats =
    record {
      run = run;
      count = length-set old.machines k d ∙ from.count;
      each = λ q below x gets c got. each_on q below x gets c got (place_of q k);
      seat_count = length-set old.seats party left ∙ from.seat_count;
      seats = λ p below. seat_on p below (place_of p party);
    }
  where
    place_of : (q j : ℕ) → (q ≡ j) ⊎ (q ≢ j)
    place_of q j = elim (eqb_tells q j) [ inl e ↦ inl e.1 | inr e ↦ inr e.1 ]

    each_on : (q : ℕ) → q < length objects → (x : Object T) → slice_get objects q ≡ Some x → (c : Configuration T) → slice_get (slice_set old.machines k d) q ≡ Some c → ((q ≡ k) ⊎ (q ≢ k)) → machines.StandsAt z x parties (events_of q now) c
    each_on q below x gets c got (inl is) =
        let same_object : o ≡ x = one_value o x (sym there ∙ ap (slice_get objects) (sym is) ∙ gets) in
        let same_machine : d ≡ c = one_value d c (sym (slice_get-set_same old.machines k d within) ∙ ap (slice_get (slice_set old.machines k d)) (sym is) ∙ got) in
        subst (λ (y : Configuration T). machines.StandsAt z x parties (events_of q now) y) same_machine
        (subst (λ (y : Object T). machines.StandsAt z y parties (events_of q now) d) same_object
        (subst (λ j. machines.StandsAt z o parties (events_of j now) d) (sym is) stands))
    each_on q below x gets c got (inr other) =
        subst (λ (l : List (Event T)). machines.StandsAt z x parties l c) (sym (others q other)) (from.each q below x gets c (sym (slice_get-set_other old.machines k q d other) ∙ got))

    seat_on : (p : ℕ) → p < parties → ((p ≡ party) ⊎ (p ≢ party)) → slice_get (slice_set old.seats party left) p ≡ Some (seat_of p now)
    seat_on p below (inl is) = ap (slice_get (slice_set old.seats party left)) is ∙ slice_get-set_same old.seats party left seat_within ∙ ap Some (sym sits ∙ ap (λ q. seat_of q now) (sym is))
    seat_on p below (inr other) = slice_get-set_other old.seats party p left other ∙ from.seats p below ∙ ap Some (sym (seats p other))

stands_more :
    {T : Type 0} (z : Arithmetic T) (objects : List (Object T)) (parties : ℕ) (past : List (RoomEvent T)) (old : Seating T) (party k : ℕ) (input : Input T) (e : Event T) (c d : Configuration T) (seat left : Option ℕ) →
    StandsAt z objects parties past old → k < length old.machines → slice_get old.machines k ≡ Some c → party < length old.seats → slice_get old.seats party ≡ Some seat → begins_elsewhere input k seat ≡ false →
    left ≡ seat_left k e.then → machines.Steps z c party input e d →
    IsNext z objects parties past party k input (record { object = k; event = e }) × StandsAt z objects parties (record { object = k; event = e } ∷ past) (with_step old k d party left)
stands_more {T} z objects parties past old party k input e c d seat left at within got seat_within sat free left_is steps_on =
    let below : k < length objects = rw at.count at within in
    let seat_below : party < parties = rw at.seat_count at seat_within in
    let o : Object T = get_or objects k c.object in
    let there : slice_get objects k ≡ Some o = slice_get-get_or objects k c.object below in
    let told : RoomEvent T = record { object = k; event = e } in
    let one = steps_on o parties (events_of k past) (at.each k below o there c got) in
    let seat_is : seat ≡ seat_of party past = one_value seat (seat_of party past) (sym sat ∙ at.seats party seat_below) in
    let next : IsNext z objects parties past party k input told =
    record { object_is = refl; of = o; there = there; free = rw seat_is at free; next = one.0 } in (
      next,
      stands_on z objects parties past (told ∷ past) old party k o d left at within seat_within there (next_past z objects parties past party k input told at.run next)
          (subst (λ (l : List (Event T)). machines.StandsAt z o parties l d) (sym (own_more k e past)) one.1) (λ q other. other_more k q e past other)
          (seat_more k e party past one.0.party_is ∙ sym left_is) (λ p other. unseated_more k e p past (λ is. other (sym is ∙ one.0.party_is))),
    )

-- What a room's calls promise, from what its machines did.

pub steps_in_place :
    {T : Type 0} (z : Arithmetic T) (party k : ℕ) (input : Input T) (e : Event T) {c d : Configuration T} {seat left : Option ℕ} {own old : Seating T} →
    own ≡ old → k < length own.machines → c ≡ get_or own.machines k c → party < length own.seats → seat ≡ get_or own.seats party seat → begins_elsewhere input k seat ≡ false →
    left ≡ seat_left k e.then → machines.Steps z c party input e d →
    Steps z old party k input (record { object = k; event = e }) (with_step own k d party left)
steps_in_place {T} z party k input e {c} {d} {seat} {left} {own} {old} same within there seat_within sat free left_is steps_on objects parties past at =
    stands_more z objects parties past own party k input e c d seat left (subst (StandsAt z objects parties past) (sym same) at) within (slice_get-get_or own.machines k c within ∙ ap Some (sym there))
    seat_within (slice_get-get_or own.seats party seat seat_within ∙ ap Some (sym sat)) free left_is steps_on

pub steps_headlines :
    {T : Type 0} (z : Arithmetic T) (party k : ℕ) (input : Input T) (old new : Seating T) (told : RoomEvent T) → Steps z old party k input told new → KeepsHeadlines z old told
steps_headlines z party k input old new told steps_on objects parties past at = each_keeps z objects parties (told ∷ past) (steps_on objects parties past at).1.run

pub refuses_in_place :
    {T : Type 0} (z : Arithmetic T) (party k : ℕ) (input : Input T) (fault : StepFault) {c : Configuration T} {seat : Option ℕ} {own old : Seating T} →
    own ≡ old → k < length own.machines → c ≡ get_or own.machines k c → party < length own.seats → seat ≡ get_or own.seats party seat → begins_elsewhere input k seat ≡ false →
    machines.RefusesStep z c party input fault → RefusesStep z old party k input (RoomFault.Step fault)
refuses_in_place {T} z party k input fault {c} {seat} {own} {old} same within there seat_within sat free refused objects parties past at =
    let here : StandsAt z objects parties past own = subst (StandsAt z objects parties past) (sym same) at in
    let below : k < length objects = rw here.count at within in
    let seat_below : party < parties = rw here.seat_count at seat_within in
    let o : Object T = get_or objects k c.object in
    let found : slice_get objects k ≡ Some o = slice_get-get_or objects k c.object below in
    let fault_is : steps.fault_of z o parties (events_of k past) party input ≡ Some fault =
    refused o parties (events_of k past) (here.each k below o found c (slice_get-get_or own.machines k c within ∙ ap Some (sym there))) in
    let seat_is : seat ≡ seat_of party past = one_value seat (seat_of party past) (sym (slice_get-get_or own.seats party seat seat_within ∙ ap Some (sym sat)) ∙ here.seats party seat_below) in
    let inner = rw (lt-ltb party parties seat_below) at fault_is in
    rw (found, lt-ltb party parties seat_below, sym seat_is, free) (ap at_step inner)

-- a party that is not there sits nowhere

there_to_move : {T P : Type 0} (t : Table T P) (parties : ℕ) (past : List (Event T)) (party : ℕ) (input : Input T) → moves.fault_of t parties past party input ≡ None → party < parties
there_to_move t parties past party input h1 = grind (arith, nat_tests, eqb-true, eqb-false)

unseated : {T : Type 0} (told : RoomEvent T) (past : List (RoomEvent T)) (parties p : ℕ) → told.event.party < parties → parties ≤ p → seat_of p past ≡ None → seat_of p (told ∷ past) ≡ None
unseated told past parties p h1 h2 h3 = grind (arith, nat_tests, eqb-true, eqb-false)

absent_seat : {T : Type 0} (z : Arithmetic T) (objects : List (Object T)) (parties p : ℕ) (past : List (RoomEvent T)) → parties ≤ p → IsPlayed z objects parties past → seat_of p past ≡ None
absent_seat z objects parties p [] beyond played = refl
absent_seat z objects parties p (told ∷ past) beyond played =
    let next = played.0.1 in
    unseated told past parties p (there_to_move (table_of z next.of) parties (events_of told.object past) told.event.party played.0.0 next.next.allowed) beyond (absent_seat z objects parties p past beyond played.1)

pub seat_beyond :
    {T : Type 0} (z : Arithmetic T) (objects : List (Object T)) (parties : ℕ) (past : List (RoomEvent T)) (m : Seating T) (xs : List (Option ℕ)) (p : ℕ) → StandsAt z objects parties past m → xs ≡ m.seats → length xs ≤ p → None ≡ seat_of p past
seat_beyond z objects parties past m xs p at same beyond = sym (absent_seat z objects parties p past (rw (same, at.seat_count) at beyond) at.run.1)

-- A new room.

there_is : {A : Type 0} (xs : List A) (k : ℕ) → k < length xs → (x : A) × (slice_get xs k ≡ Some x)
there_is [] k below = absurd (omega (arith, below))
there_is (x ∷ xs) zero below = (x, refl)
there_is (x ∷ xs) (suc k) below = there_is xs k (omega (arith, below))

got_more : {A : Type 0} (xs : List A) (v : A) (k : ℕ) (y : A) → slice_get (xs ++ v ∷ []) k ≡ Some y → (slice_get xs k ≡ Some y) ⊎ ((k ≡ length xs) × (v ≡ y))
got_more [] v zero y got = inr (refl, one_value v y got)
got_more [] v (suc k) y got = absurd cc
got_more (x ∷ xs) v zero y got = inl got
got_more (x ∷ xs) v (suc k) y got = elim (got_more xs v k y got) [ inl e ↦ inl e | inr e ↦ inr (ap suc e.0, e.1) ]

abbrev pub no_seat : Option ℕ
no_seat = None

none_replicated : (n p : ℕ) → p < n → slice_get (replicate n no_seat) p ≡ Some no_seat
none_replicated zero p below = absurd (omega (arith, below))
none_replicated (suc n) zero below = refl
none_replicated (suc n) (suc p) below = none_replicated n p (omega (arith, below))

-- each of these machines is a new one of its object
abbrev pub AreNew : {T : Type 0} → Arithmetic T → List (Object T) → ℕ → List (Configuration T) → Type 0
AreNew {T} z objects parties ms = (k : ℕ) (o : Object T) (c : Configuration T) → slice_get objects k ≡ Some o → slice_get ms k ≡ Some c → machines.StandsAt z o parties [] c

pub new_more :
    {T : Type 0} (z : Arithmetic T) (objects : List (Object T)) (parties : ℕ) (ms : List (Configuration T)) (i : ℕ) (c : Configuration T) (o : Object T) → length ms ≡ i → i < length objects → o ≡ get_or objects i o →
    AreNew z objects parties ms → machines.StandsAt z o parties [] c → AreNew z objects parties (ms ++ c ∷ [])
new_more {T} z objects parties ms i c o count below is before stands k x d there got = by_place (got_more ms c k d got)
  where
    by_place : (slice_get ms k ≡ Some d) ⊎ ((k ≡ length ms) × (c ≡ d)) → machines.StandsAt z x parties [] d
    by_place (inl old) = before k x d there old
    by_place (inr new) =
        let o_is : slice_get objects k ≡ Some o = ap (slice_get objects) (new.0 ∙ count) ∙ slice_get-get_or objects i o below ∙ ap Some (sym is) in
        let same : o ≡ x = one_value o x (sym o_is ∙ there) in
        subst (λ (y : Configuration T). machines.StandsAt z x parties [] y) new.1 (subst (λ (y : Object T). machines.StandsAt z y parties [] c) same stands)

pub stands_new :
    {T : Type 0} (z : Arithmetic T) (objects : List (Object T)) (parties : ℕ) (m : Seating T) → length m.machines ≡ length objects → AreNew z objects parties m.machines → m.seats ≡ replicate parties no_seat → StandsAt z objects parties [] m
stands_new {T} z objects parties m count new seats =
    record {
      run = (λ k o there. let below : k < length objects = slice_get_within objects k o there in let found = there_is m.machines k (rw (sym count) at below) in (new k o found.0 there found.1).run.0, tt);
      count = count;
      each = λ k below o there c got. new k o c there got;
      seat_count = ap length seats ∙ length-replicate parties no_seat;
      seats = λ p below. rw seats (none_replicated parties p below);
    }

-- What the room tells of an object.

pub machine_there :
    {T : Type 0} (z : Arithmetic T) (objects : List (Object T)) (parties : ℕ) (past : List (RoomEvent T)) (m : Seating T) (xs : List (Configuration T)) (k : ℕ) (found : Configuration T) → StandsAt z objects parties past m → xs ≡ m.machines →
    k < length xs → found ≡ get_or xs k found → (o : Object T) × (slice_get objects k ≡ Some o) × machines.StandsAt z o parties (events_of k past) found
machine_there {T} z objects parties past m xs k found at same within there =
    let is : slice_get m.machines k ≡ Some found = subst (λ (l : List (Configuration T)). slice_get l k ≡ Some found) same (slice_get-get_or xs k found within ∙ ap Some (sym there)) in
    let below : k < length objects = rw at.count at (rw same at within) in
    let o : Object T = get_or objects k found.object in
    let got : slice_get objects k ≡ Some o = slice_get-get_or objects k found.object below in
    (o, got, at.each k below o got found is)

pub machine_beyond :
    {T : Type 0} (z : Arithmetic T) (objects : List (Object T)) (parties : ℕ) (past : List (RoomEvent T)) (m : Seating T) (xs : List (Configuration T)) (k : ℕ) → StandsAt z objects parties past m → xs ≡ m.machines → length xs ≤ k → length objects ≤ k
machine_beyond z objects parties past m xs k at same beyond = rw at.count at (rw same at beyond)
