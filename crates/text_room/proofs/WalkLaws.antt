-- A walk goes on by the next events of what is left of its line.
use Rattle.text_room.proofs.Names.{◌≡◌, ℕ, zero, suc, ◌+◌, ◌*◌, ◌-◌, ◌^◌, ◌<◌, ◌≤◌, Bool, true, false, cond, List, [], ◌∷◌, Option, Some, None, is_some, Ok, Err, IfSome, refl, sym, ap, subst, ◌∙◌, arith, ◌⊎◌, inl, inr, slice_get, replicate, nat_lt, eqb-true, eqb-false, nat_tests, Arithmetic, goes_on, Move, Table, PendingCall, fault_at, call_of, fault_at_none, Input, Object, StepFault, HoldKind, table_of, Task, LineFault, lines_of, words_of, Numerals, IsQuiet, RoomEvent, RoomStride, RoomFault, Seating, StandsAt, Steps, RefusesStep, Strides, steps_of, TellsSeat, events_of, seat_of, fault_of, IsNext, IsRun, IsPast, sits_at, begins_elsewhere, at_step, fault_there, next_past, sits, RoomCommand, steps_left, after}
use Rattle.text_room.specs.Walk.{Walk, ended, stopped, step_then, steps_then, left_after, line_fault, where_of, event_by, unless_refused, after_times, move_there, event_of, IsTurn, asked, walk_from}
unfoldable use Rattle.text_room.specs.Walk.{event_at, go_walk, run_walk, lines_walk}

-- How many steps are left.

pub fewer_left : (left after lines rest most : ℕ) → left + lines * 2 ^ 64 ≤ most → rest < lines → after < 2 ^ 64 → after + rest * 2 ^ 64 ≤ most
fewer_left left after lines rest most before shorter within = omega (arith, before, shorter, within)

pub fewer_steps : {T : Type 0} (new old : RoomCommand T) (told : Option (RoomStride T)) (e : RoomStride T) (lines most : ℕ) → told ≡ Some e → steps_left old.task + lines * 2 ^ 64 ≤ most → IfSome told (λ _. steps_left new.task < steps_left old.task) →
    steps_left new.task + lines * 2 ^ 64 < most
fewer_steps new old told e lines most h1 h2 h3 = grind (arith, nat_tests, eqb-true, eqb-false)

-- so many steps, or steps up to an end, and at most so many
abbrev pub AsksSteps : {T : Type 0} → ℕ → Task T → Type 0
AsksSteps limit task = (task ≡ Task.Go limit) ⊎ (task ≡ Task.Run limit)

none_of : (b c : Bool) (f : Option StepFault) → c ≡ false → cond b f (Some StepFault.NoParty) ≡ None → cond b (cond c (Some (RoomFault.Step StepFault.Busy)) (at_step (cond b f (Some StepFault.NoParty)))) (Some (RoomFault.Step StepFault.NoParty)) ≡ None
none_of b c f h1 h2 = grind (arith, nat_tests, eqb-true, eqb-false)

go_called : {T P : Type 0} (t : Table T P) (pending : Option (PendingCall T)) (hold : Option HoldKind) → fault_at t pending hold Input.Go ≡ None → is_some pending ≡ true
go_called t pending hold h1 = grind (arith, nat_tests, eqb-true, eqb-false)

sits_where : (k : ℕ) (seat : Option ℕ) → sits_at k seat ≡ true → where_of None seat ≡ k
sits_where k seat h1 = grind (arith, nat_tests, eqb-true, eqb-false)

module _ {T : Type 0} (z : Arithmetic T) where
  abbrev Ev : Type 0
  Ev = RoomEvent T

  -- An input gives its one event.

  allowed_there : (objects : List (Object T)) (parties : ℕ) (past : List Ev) (party k : ℕ) (input : Input T) (told : Ev) → (n : IsNext z objects parties past party k input told) → fault_of z objects parties past party k input ≡ None
  allowed_there objects parties past party k input told n =
      subst (λ (found : Option (Object T)). fault_there z found parties past party k input ≡ None) (sym n.there)
      (none_of (nat_lt party parties) (begins_elsewhere input k (seat_of party past)) _ n.free n.next.allowed)

  pub event_is : (objects : List (Object T)) (parties : ℕ) (past : List Ev) (party k : ℕ) (input : Input T) (told : Ev) → IsNext z objects parties past party k input told → event_at z objects parties past party k input ≡ Ok told
  unfolding event_at
  event_is objects parties past party k input told n =
      let move : Move T = record { act = told.event.act; outcome = told.event.then } in
      let moved : move_there z (slice_get objects k) past party k input ≡ Some move =
      subst (λ (found : Option (Object T)). move_there z found past party k input ≡ Some move) (sym n.there) n.next.moved in
      ap (λ (f : Option RoomFault). unless_refused f (event_by party k (move_there z (slice_get objects k) past party k input))) (allowed_there objects parties past party k input told n)
      ∙ ap (event_by party k) moved
      ∙ ap (λ (j : ℕ). Ok (record { object = j; event = record { party = party; act = told.event.act; «then» = told.event.then } })) (sym n.object_is)
      ∙ ap (λ (p : ℕ). Ok (record { object = told.object; event = record { party = p; act = told.event.act; «then» = told.event.then } })) (sym n.next.party_is)

  pub event_refused : (objects : List (Object T)) (parties : ℕ) (past : List Ev) (party k : ℕ) (input : Input T) (fault : RoomFault) → fault_of z objects parties past party k input ≡ Some fault → event_at z objects parties past party k input ≡ Err (line_fault fault)
  unfolding event_at
  event_refused objects parties past party k input fault e = rw e refl

  -- a step that comes next at an object is of the party that sits there
  goes_where : (objects : List (Object T)) (parties : ℕ) (past : List Ev) (party k : ℕ) (told : Ev) → IsPast z objects parties past → IsNext z objects parties past party k Input.Go told → where_of None (seat_of party past) ≡ k
  goes_where objects parties past party k told run n =
      sits_where k (seat_of party past)
      (sym (sits z objects parties past run.1 party k) ∙ go_called (table_of z n.of) (call_of party (events_of k past)) _ (fault_at_none (table_of z n.of) parties (events_of k past) party Input.Go n.next.allowed))

  event_go : (objects : List (Object T)) (parties : ℕ) (past : List Ev) (party k : ℕ) (told : Ev) → IsPast z objects parties past → IsNext z objects parties past party k Input.Go told → event_of z objects parties past party None Input.Go ≡ Ok told
  event_go objects parties past party k told run n =
      ap (λ (j : ℕ). event_at z objects parties past party j Input.Go) (goes_where objects parties past party k told run n) ∙ event_is objects parties past party k Input.Go told n

  -- So many equal events of steps.

  go_step : (objects : List (Object T)) (parties line steps : ℕ) (past : List Ev) (party : ℕ) (e : Ev) (others : List Ev → Walk T) → event_of z objects parties past party None Input.Go ≡ Ok e →
      go_walk z objects parties line (suc steps) past party others ≡ step_then (record { line = line; event = e }) (go_walk z objects parties line steps (e ∷ past) party others)
  unfolding go_walk
  go_step objects parties line steps past party e others is = rw is refl

  run_step : (objects : List (Object T)) (parties line limit : ℕ) (past : List Ev) (party : ℕ) (e : Ev) (others : List Ev → Walk T) → event_of z objects parties past party None Input.Go ≡ Ok e →
      run_walk z objects parties line (suc limit) past party others ≡ step_then (record { line = line; event = e }) (cond (goes_on e.event.then) (run_walk z objects parties line limit (e ∷ past) party others) (others (e ∷ past)))
  unfolding run_walk
  run_step objects parties line limit past party e others is = rw is refl

  goes_so_often : (objects : List (Object T)) (parties line times steps : ℕ) (past : List Ev) (party k : ℕ) (e : Ev) (others : List Ev → Walk T) → times ≤ steps → IsPast z objects parties past → IsRun z objects parties past (steps_of party k times) (replicate times e) →
      go_walk z objects parties line steps past party others ≡ steps_then (replicate times (record { line = line; event = e })) (go_walk z objects parties line (steps - times) (after_times times e past) party others)
  goes_so_often objects parties line zero steps past party k e others within from run = let all : steps - 0 ≡ steps = omega arith in rw all refl
  goes_so_often objects parties line (suc times) zero past party k e others within from run = absurd (omega (arith, within))
  goes_so_often objects parties line (suc times) (suc steps) past party k e others within from run =
      let left : suc steps - suc times ≡ steps - times = omega arith in
      go_step objects parties line steps past party e others (event_go objects parties past party k e from run.0)
      ∙ ap (step_then (record { line = line; event = e })) (rw left (goes_so_often objects parties line times steps (e ∷ past) party k e others (omega (arith, within)) (next_past z objects parties past party k Input.Go e from run.0) run.1))

  runs_so_often : (objects : List (Object T)) (parties line times limit : ℕ) (past : List Ev) (party k : ℕ) (e : Ev) (others : List Ev → Walk T) → goes_on e.event.then ≡ true → times ≤ limit → IsPast z objects parties past → IsRun z objects parties past (steps_of party k times) (replicate times e) →
      run_walk z objects parties line limit past party others ≡ steps_then (replicate times (record { line = line; event = e })) (run_walk z objects parties line (limit - times) (after_times times e past) party others)
  runs_so_often objects parties line zero limit past party k e others goes within from run = let all : limit - 0 ≡ limit = omega arith in rw all refl
  runs_so_often objects parties line (suc times) zero past party k e others goes within from run = absurd (omega (arith, within))
  runs_so_often objects parties line (suc times) (suc limit) past party k e others goes within from run =
      let left : suc limit - suc times ≡ limit - times = omega arith in
      run_step objects parties line limit past party e others (event_go objects parties past party k e from run.0)
      ∙ ap (λ (b : Bool). step_then (record { line = line; event = e }) (cond b (run_walk z objects parties line limit (e ∷ past) party others) (others (e ∷ past)))) goes
      ∙ ap (step_then (record { line = line; event = e })) (rw left (runs_so_often objects parties line times limit (e ∷ past) party k e others goes (omega (arith, within)) (next_past z objects parties past party k Input.Go e from run.0) run.1))

  run_ends : (objects : List (Object T)) (parties line times limit : ℕ) (past : List Ev) (party k : ℕ) (e : Ev) (others : List Ev → Walk T) → goes_on e.event.then ≡ false → 0 < times → times ≤ limit → (1 < times → IsQuiet e.event) → IsPast z objects parties past →
      IsRun z objects parties past (steps_of party k times) (replicate times e) →
      run_walk z objects parties line limit past party others ≡ steps_then (replicate times (record { line = line; event = e })) (others (after_times times e past))
  run_ends objects parties line zero limit past party k e others ends some within quiet from run = absurd (omega (arith, some))
  run_ends objects parties line (suc times) zero past party k e others ends some within quiet from run = absurd (omega (arith, within))
  run_ends objects parties line (suc zero) (suc limit) past party k e others ends some within quiet from run =
      run_step objects parties line limit past party e others (event_go objects parties past party k e from run.0)
      ∙ ap (λ (b : Bool). step_then (record { line = line; event = e }) (cond b (run_walk z objects parties line limit (e ∷ past) party others) (others (e ∷ past)))) ends
  run_ends objects parties line (suc (suc times)) (suc limit) past party k e others ends some within quiet from run =
      let goes = (quiet (omega arith)).goes_on in
      let on : goes_on e.event.then ≡ true = rw goes refl in
      absurd (differ (goes_on e.event.then) on ends)
    where
      differ : (b : Bool) → b ≡ true → b ≡ false → ⊥
      differ true e f = absurd cc
      differ false e f = absurd cc

  -- What the player tells. The object of an input is told by the seat.

  pub turn_done : (objects : List (Object T)) (parties : ℕ) (past : List Ev) (old new : RoomCommand T) (room : Seating T) → old.task ≡ Task.Go 0 → StandsAt z objects parties past room → IsTurn z objects parties past old new room (Ok None)
  unfolding go_walk
  turn_done objects parties past old new room asked stands = (λ line others. rw asked refl, stands)

  pub turn_limited : (objects : List (Object T)) (parties : ℕ) (past : List Ev) (old new : RoomCommand T) (room : Seating T) → old.task ≡ Task.Run 0 → IsTurn z objects parties past old new room (Err LineFault.StepLimit)
  unfolding run_walk
  turn_limited objects parties past old new room asked line others = rw asked refl

  pub turn_given : (objects : List (Object T)) (parties : ℕ) (past : List Ev) (old new : RoomCommand T) (input : Input T) (e : Ev) (k : ℕ) (seat : Option ℕ) (room room' : Seating T) → old.task ≡ Task.Give input → new.task ≡ Task.Go 0 → StandsAt z objects parties past room →
      TellsSeat z room old.party seat → k ≡ where_of old.named seat → Steps z room old.party k input e room' → IsTurn z objects parties past old new room' (Ok (Some (record { event = e; times = 1 })))
  unfolding go_walk
  turn_given objects parties past old new input e k seat room room' asked left stands tells at steps_on =
      let s = steps_on objects parties past stands in
      let there : where_of old.named (seat_of old.party past) ≡ k = ap (where_of old.named) (sym (tells objects parties past stands)) ∙ sym at in
      let is : event_of z objects parties past old.party old.named input ≡ Ok e = ap (λ (j : ℕ). event_at z objects parties past old.party j input) there ∙ event_is objects parties past old.party k input e s.0 in
      (λ line others. rw (asked, left, is) refl, s.1)

  pub turn_not_given : (objects : List (Object T)) (parties : ℕ) (past : List Ev) (old new : RoomCommand T) (input : Input T) (fault : RoomFault) (k : ℕ) (seat : Option ℕ) (room room' : Seating T) → old.task ≡ Task.Give input → StandsAt z objects parties past room →
      TellsSeat z room old.party seat → k ≡ where_of old.named seat → RefusesStep z room old.party k input fault → IsTurn z objects parties past old new room' (Err (line_fault fault))
  turn_not_given objects parties past old new input fault k seat room room' asked stands tells at refuses line others =
      let there : where_of old.named (seat_of old.party past) ≡ k = ap (where_of old.named) (sym (tells objects parties past stands)) ∙ sym at in
      let is : event_of z objects parties past old.party old.named input ≡ Err (line_fault fault) = ap (λ (j : ℕ). event_at z objects parties past old.party j input) there ∙ event_refused objects parties past old.party k input fault (refuses objects parties past stands) in
      rw (asked, is) refl

  pub stride_refused : (objects : List (Object T)) (parties : ℕ) (past : List Ev) (old new : RoomCommand T) (limit : ℕ) (fault : RoomFault) (k : ℕ) (seat : Option ℕ) (room room' : Seating T) → AsksSteps limit old.task → 0 < limit → StandsAt z objects parties past room →
      TellsSeat z room old.party seat → k ≡ where_of None seat → RefusesStep z room old.party k Input.Go fault → IsTurn z objects parties past old new room' (Err (line_fault fault))
  unfolding go_walk run_walk
  stride_refused objects parties past old new zero fault k seat room room' asked some stands tells at refuses line others = absurd (omega (arith, some))
  stride_refused objects parties past old new (suc limit) fault k seat room room' asked some stands tells at refuses line others =
      let there : where_of None (seat_of old.party past) ≡ k = ap (where_of None) (sym (tells objects parties past stands)) ∙ sym at in
      let is : event_of z objects parties past old.party None Input.Go ≡ Err (line_fault fault) = ap (λ (j : ℕ). event_at z objects parties past old.party j Input.Go) there ∙ event_refused objects parties past old.party k Input.Go fault (refuses objects parties past stands) in
      elim asked [ inl goes ↦ rw (goes, is) refl | inr runs ↦ rw (runs, is) refl ]

  pub turn_strides : (objects : List (Object T)) (parties : ℕ) (past : List Ev) (old new : RoomCommand T) (limit : ℕ) (stride : RoomStride T) (k : ℕ) (room room' : Seating T) → AsksSteps limit old.task → new.party ≡ old.party →
      new.task ≡ left_after old.task stride → 0 < stride.times → stride.times ≤ limit → (1 < stride.times → IsQuiet stride.event.event) → StandsAt z objects parties past room →
      Strides z room old.party k stride.event stride.times room' → IsTurn z objects parties past old new room' (Ok (Some stride))
  unfolding go_walk
  turn_strides objects parties past old new limit stride k room room' (inl asked) party left some within quiet stands strides =
      let s = strides objects parties past stands in
      let is : new.task ≡ Task.Go (limit - stride.times) = left ∙ ap (λ (task : Task T). left_after task stride) asked in
      (λ line others. rw (asked, is, party) (goes_so_often objects parties line stride.times limit past old.party k stride.event others within stands.run s.run), s.stands)
  turn_strides objects parties past old new limit stride k room room' (inr asked) party left some within quiet stands strides = decided (goes_on stride.event.event.then) refl (left ∙ ap (λ (task : Task T). left_after task stride) asked)
    where
      decided : (goes : Bool) → goes_on stride.event.event.then ≡ goes → new.task ≡ cond goes (Task.Run (limit - stride.times)) (Task.Go 0) → IsTurn z objects parties past old new room' (Ok (Some stride))
      decided true goes is =
          let s = strides objects parties past stands in
          (λ line others. rw (asked, is, party) (runs_so_often objects parties line stride.times limit past old.party k stride.event others goes within stands.run s.run), s.stands)
      decided false ends is =
          let s = strides objects parties past stands in
          (λ line others. rw (asked, is) (run_ends objects parties line stride.times limit past old.party k stride.event others ends some within quiet stands.run s.run ∙ done line others), s.stands)
        where
          done : (line : ℕ) (others : List Ev → Walk T) → steps_then (replicate stride.times (record { line = line; event = stride.event })) (others (after_times stride.times stride.event past)) ≡ steps_then (replicate stride.times (record { line = line; event = stride.event })) (go_walk z objects parties line 0 (after_times stride.times stride.event past) new.party others)
          done line others = ap (steps_then (replicate stride.times (record { line = line; event = stride.event }))) (no_step line others)
            where
              no_step : (line : ℕ) (others : List Ev → Walk T) → others (after_times stride.times stride.event past) ≡ go_walk z objects parties line 0 (after_times stride.times stride.event past) new.party others
              no_step line others = refl

module _ {T : Type 0} (z : Arithmetic T) (numerals : Numerals T) (names : List (List ℕ)) (objects : List (Object T)) (parties : ℕ) where
  -- What the walker finds.

  -- events
  pub walk_strides : (line : ℕ) (past : List (RoomEvent T)) (old new : RoomCommand T) (lines : List ℕ) (told : Option (RoomStride T)) (stride : RoomStride T) (room : Seating T) → told ≡ Some stride → IsTurn z objects parties past old new room (Ok told) →
      walk_from z numerals names objects parties past line old lines ≡ steps_then (replicate stride.times (record { line = line; event = stride.event })) (walk_from z numerals names objects parties (after_times stride.times stride.event past) line new lines)
  walk_strides line past old new lines told stride room h1 h2 = grind (arith, nat_tests, eqb-true, eqb-false)

  pub walk_stands : (past : List (RoomEvent T)) (old new : RoomCommand T) (told : Option (RoomStride T)) (stride : RoomStride T) (room : Seating T) → told ≡ Some stride → IsTurn z objects parties past old new room (Ok told) →
      StandsAt z objects parties (after_times stride.times stride.event past) room
  walk_stands past old new told stride room some turn = (subst (λ (x : Option (RoomStride T)). IsTurn z objects parties past old new room (Ok x)) some turn).1

  -- a fault
  pub walk_stops : (line : ℕ) (past : List (RoomEvent T)) (old new : RoomCommand T) (lines : List ℕ) (fault : LineFault) (room : Seating T) → IsTurn z objects parties past old new room (Err fault) →
      walk_from z numerals names objects parties past line old lines ≡ stopped line fault
  walk_stops line past old new lines fault room turn = turn line (λ there. lines_walk z numerals names objects parties (line + 1) (lines_of lines) there)

  -- nothing, so that the walk goes on by the lines
  pub walk_passes : (line : ℕ) (past : List (RoomEvent T)) (old new : RoomCommand T) (lines : List ℕ) (told : Option (RoomStride T)) (room : Seating T) → told ≡ None → IsTurn z objects parties past old new room (Ok told) →
      walk_from z numerals names objects parties past line old lines ≡ lines_walk z numerals names objects parties (line + 1) (lines_of lines) past
  walk_passes line past old new lines told room h1 h2 = grind (arith, nat_tests, eqb-true, eqb-false)

  pub pass_stands : (past : List (RoomEvent T)) (old new : RoomCommand T) (told : Option (RoomStride T)) (room : Seating T) → told ≡ None → IsTurn z objects parties past old new room (Ok told) → StandsAt z objects parties past room
  pass_stands past old new told room none turn = (subst (λ (x : Option (RoomStride T)). IsTurn z objects parties past old new room (Ok x)) none turn).1

  -- the lines: there is none, or the first asks something, or has a fault

  pub lines_end : (number : ℕ) (past : List (RoomEvent T)) (lines : List (List ℕ)) → lines ≡ [] → lines_walk z numerals names objects parties number lines past ≡ ended
  unfolding lines_walk
  lines_end number past lines none = rw none refl

  pub lines_go_on : (number : ℕ) (past : List (RoomEvent T)) (lines : List (List ℕ)) (line rest : List ℕ) (command : RoomCommand T) → lines ≡ line ∷ lines_of rest → Ok command ≡ asked numerals names objects (words_of line) →
      lines_walk z numerals names objects parties number lines past ≡ walk_from z numerals names objects parties past number command rest
  unfolding lines_walk
  lines_go_on number past lines line rest command same is = rw (same, ← is) refl

  pub lines_stop : (number : ℕ) (past : List (RoomEvent T)) (lines : List (List ℕ)) (line rest : List ℕ) (fault : LineFault) → lines ≡ line ∷ lines_of rest → Err fault ≡ asked numerals names objects (words_of line) →
      lines_walk z numerals names objects parties number lines past ≡ stopped number fault
  unfolding lines_walk
  lines_stop number past lines line rest fault same is = rw (same, ← is) refl
