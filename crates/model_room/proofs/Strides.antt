-- A stride of one machine is a stride of the room.
use Rattle.model_room.proofs.Names.{◌≡◌, ◌≢◌, ℕ, zero, suc, ◌<◌, refl, sym, ◌∙◌, ap, subst, List, ◌∷◌, length, get_or, slice_get, Option, Some, arith, slice_get-get_or, replicate, Arithmetic, Event, Input, Object, RoomEvent, RoomInput, events_of, seat_left, seat_of, IsNext, IsRun, after, AtEveryPrefix, EachKeeps, IsPast, Seating, StandsAt}
use Rattle.model_room.specs.Room.{Strides}
use Rattle.sync_steps.specs.Machine.{Configuration}
use Rattle.sync_steps.specs.Machine as machines
use Rattle.sync_steps.specs.Machine.Strides as machine_strides
use Rattle.sync_steps.specs.Runs as steps
use Rattle.model_room.proofs.Runs.{each_keeps, next_past}
use Rattle.model_room.proofs.Stands.{with_step, at, own_more, other_more, seat_more, unseated_more, stands_on}

abbrev turn : {T : Type 0} → ℕ → ℕ → RoomInput T
turn party k = record { party = party; object = k; input = Input.Go }

own_after : {T : Type 0} (k : ℕ) (e : Event T) (n : ℕ) (past : List (RoomEvent T)) → events_of k (after (replicate n (at k e)) past) ≡ after (replicate n e) (events_of k past)
own_after k e zero past = refl
own_after {T} k e (suc n) past = own_after k e n (at k e ∷ past) ∙ ap (after (replicate n e)) (own_more k e past)

other_after : {T : Type 0} (k q : ℕ) (e : Event T) (n : ℕ) (past : List (RoomEvent T)) → q ≢ k → events_of q (after (replicate n (at k e)) past) ≡ events_of q past
other_after k q e zero past other = refl
other_after k q e (suc n) past other = other_after k q e n (at k e ∷ past) other ∙ other_more k q e past other

seat_after_all : {T : Type 0} (k : ℕ) (e : Event T) (p n : ℕ) (past : List (RoomEvent T)) → e.party ≡ p → seat_of p past ≡ seat_left k e.then → seat_of p (after (replicate n (at k e)) past) ≡ seat_left k e.then
seat_after_all k e p zero past is left = left
seat_after_all k e p (suc n) past is left = seat_after_all k e p n (at k e ∷ past) is (seat_more k e p past is)

unseated_after : {T : Type 0} (k : ℕ) (e : Event T) (p n : ℕ) (past : List (RoomEvent T)) → e.party ≢ p → seat_of p (after (replicate n (at k e)) past) ≡ seat_of p past
unseated_after k e p zero past other = refl
unseated_after k e p (suc n) past other = unseated_after k e p n (at k e ∷ past) other ∙ unseated_more k e p past other

-- so many steps of the object, one after the other, are so many of the room
record Lifted {T : Type 0} (z : Arithmetic T) (objects : List (Object T)) (parties : ℕ) (past : List (RoomEvent T)) (schedule : List (RoomInput T)) (events : List (RoomEvent T)) : Type 0 where
  run : IsRun z objects parties past schedule events
  prefixes : AtEveryPrefix (EachKeeps z objects) past events
  goes_on : IsPast z objects parties (after events past)

lifted :
    {T : Type 0} (z : Arithmetic T) (objects : List (Object T)) (parties : ℕ) (past : List (RoomEvent T)) (party k n : ℕ) (o : Object T) (e : Event T) → slice_get objects k ≡ Some o → IsPast z objects parties past →
    steps.IsRun z o parties (events_of k past) (machine_strides.steps_of party n) (replicate n e) → Lifted z objects parties past (replicate n (turn party k)) (replicate n (at k e))
lifted z objects parties past party k zero o e there run goes = record { run = tt; prefixes = each_keeps z objects parties past run; goes_on = run }
lifted {T} z objects parties past party k (suc n) o e there run goes =
    let rest = lifted z objects parties (at k e ∷ past) party k n o e there (next_past z objects parties past party k Input.Go (at k e) run one)
    (subst (λ (l : List (Event T)). steps.IsRun z o parties l (machine_strides.steps_of party n) (replicate n e)) (sym (own_more k e past)) goes.1) in
    record { run = (one, rest.run); prefixes = (each_keeps z objects parties past run, rest.prefixes); goes_on = rest.goes_on }
  where
    one : IsNext z objects parties past party k Input.Go (at k e)
    one = record { object_is = refl; of = o; there = there; free = refl; next = goes.0 }

pub strides_in_place :
    {T : Type 0} (z : Arithmetic T) (party k : ℕ) (e : Event T) (times : ℕ) {c d : Configuration T} {left : Option ℕ} {own old : Seating T} →
    own ≡ old → k < length own.machines → c ≡ get_or own.machines k c → party < length own.seats → left ≡ seat_left k e.then → 0 < times → machine_strides.Strides z c party e times d →
    Strides z old party k (record { object = k; event = e }) times (with_step own k d party left)
strides_in_place {T} z party k e zero same within there seat_within left_is some strides objects parties past from = absurd (omega (arith, some))
strides_in_place {T} z party k e (suc n) {c} {d} {left} {own} {old} same within there seat_within left_is some strides objects parties past from =
    let here : StandsAt z objects parties past own = subst (StandsAt z objects parties past) (sym same) from in
    let below : k < length objects = rw here.count at within in
    let o : Object T = get_or objects k c.object in
    let found : slice_get objects k ≡ Some o = slice_get-get_or objects k c.object below in
    let on = strides o parties (events_of k past) (here.each k below o found c (slice_get-get_or own.machines k c within ∙ ap Some (sym there))) in
    let goes = lifted z objects parties past party k (suc n) o e found here.run on.run in
    let now : List (RoomEvent T) = after (replicate (suc n) (at k e)) past in
    let party_is : e.party ≡ party = on.run.0.party_is in
    record {
      run = goes.run;
      stands =
          stands_on z objects parties past now own party k o d left here within seat_within found goes.goes_on
          (subst (λ (l : List (Event T)). machines.StandsAt z o parties l d) (sym (own_after k e (suc n) past)) on.stands)
          (λ q other. other_after k q e (suc n) past other)
          (seat_after_all k e party n (at k e ∷ past) party_is (seat_more k e party past party_is) ∙ sym left_is)
          (λ p other. unseated_after k e p (suc n) past (λ is. other (sym is ∙ party_is)));
      prefixes = goes.prefixes;
    }
