-- A walk goes on by the next events of what is left of its line, and then by the next line.
use Rattle.sync_play.specs.Names.{replicate, Event, Input, Object, StepFault, Arithmetic, goes_on, EventStride, Configuration, StandsAt, Steps, RefusesStep, steps_of, Strides, IsQuiet, IsRun, Command, Task, LineFault, line_fault_of, lines_of, words_of, Numerals}
use Rattle.sync_play.proofs.Names.{nat_tests, eqb-true, eqb-false, ◌⊎◌, inl, inr, ◌≡◌, ℕ, zero, suc, ◌-◌, ◌+◌, ◌*◌, ◌^◌, ◌<◌, ◌≤◌, Bool, true, false, cond, List, [], ◌∷◌, Option, Some, None, Ok, Err, IfSome, refl, ap, subst, ◌∙◌, arith, event_of, steps_left, left_after, Walk, ended, stopped, step_then, steps_then, go_walk, run_walk, asked, lines_walk, walk_from, after_times, IsTurn}
use Rattle.sync_play.proofs.PlayerLaws.{event_is, event_refused}

-- How many steps are left.

pub fewer_left : (left after lines rest most : ℕ) → left + lines * 2 ^ 64 ≤ most → rest < lines → after < 2 ^ 64 → after + rest * 2 ^ 64 ≤ most
fewer_left left after lines rest most before shorter within = omega (arith, before, shorter, within)

pub fewer_steps : {T : Type 0} (new old : Command T) (told : Option (EventStride T)) (e : EventStride T) (lines most : ℕ) → told ≡ Some e → steps_left old.task + lines * 2 ^ 64 ≤ most → IfSome told (λ _. steps_left new.task < steps_left old.task) →
    steps_left new.task + lines * 2 ^ 64 < most
fewer_steps new old told e lines most h1 h2 h3 = grind (arith, nat_tests, eqb-true, eqb-false)

module _ {T : Type 0} (z : Arithmetic T) where
  abbrev Ev : Type 0
  Ev = Event T

  -- So many equal events of steps.

  go_step : (o : Object T) (parties line steps : ℕ) (past : List Ev) (party : ℕ) (e : Ev) (others : List Ev → Walk T) → event_of z o parties past party Input.Go ≡ Ok e →
      go_walk z o parties line (suc steps) past party others ≡ step_then (record { line = line; event = e }) (go_walk z o parties line steps (e ∷ past) party others)
  unfolding go_walk
  go_step o parties line steps past party e others is = rw is refl

  run_step : (o : Object T) (parties line limit : ℕ) (past : List Ev) (party : ℕ) (e : Ev) (others : List Ev → Walk T) → event_of z o parties past party Input.Go ≡ Ok e →
      run_walk z o parties line (suc limit) past party others ≡ step_then (record { line = line; event = e }) (cond (goes_on e.then) (run_walk z o parties line limit (e ∷ past) party others) (others (e ∷ past)))
  unfolding run_walk
  run_step o parties line limit past party e others is = rw is refl

  goes_so_often : (o : Object T) (parties line times steps : ℕ) (past : List Ev) (party : ℕ) (e : Ev) (others : List Ev → Walk T) → times ≤ steps → IsRun z o parties past (steps_of party times) (replicate times e) →
      go_walk z o parties line steps past party others ≡ steps_then (replicate times (record { line = line; event = e })) (go_walk z o parties line (steps - times) (after_times times e past) party others)
  goes_so_often o parties line zero steps past party e others within run = let all : steps - 0 ≡ steps = omega arith in rw all refl
  goes_so_often o parties line (suc times) zero past party e others within run = absurd (omega (arith, within))
  goes_so_often o parties line (suc times) (suc steps) past party e others within run =
      let left : suc steps - suc times ≡ steps - times = omega arith in
      go_step o parties line steps past party e others (event_is z o parties past party Input.Go e run.0)
      ∙ ap (step_then (record { line = line; event = e })) (rw left (goes_so_often o parties line times steps (e ∷ past) party e others (omega (arith, within)) run.1))

  runs_so_often : (o : Object T) (parties line times limit : ℕ) (past : List Ev) (party : ℕ) (e : Ev) (others : List Ev → Walk T) → goes_on e.then ≡ true → times ≤ limit → IsRun z o parties past (steps_of party times) (replicate times e) →
      run_walk z o parties line limit past party others ≡ steps_then (replicate times (record { line = line; event = e })) (run_walk z o parties line (limit - times) (after_times times e past) party others)
  runs_so_often o parties line zero limit past party e others goes within run = let all : limit - 0 ≡ limit = omega arith in rw all refl
  runs_so_often o parties line (suc times) zero past party e others goes within run = absurd (omega (arith, within))
  runs_so_often o parties line (suc times) (suc limit) past party e others goes within run =
      let left : suc limit - suc times ≡ limit - times = omega arith in
      run_step o parties line limit past party e others (event_is z o parties past party Input.Go e run.0)
      ∙ ap (λ (b : Bool). step_then (record { line = line; event = e }) (cond b (run_walk z o parties line limit (e ∷ past) party others) (others (e ∷ past)))) goes
      ∙ ap (step_then (record { line = line; event = e })) (rw left (runs_so_often o parties line times limit (e ∷ past) party e others goes (omega (arith, within)) run.1))

  -- the last event of a run
  run_ends : (o : Object T) (parties line times limit : ℕ) (past : List Ev) (party : ℕ) (e : Ev) (others : List Ev → Walk T) → goes_on e.then ≡ false → 0 < times → times ≤ limit → (1 < times → IsQuiet e) →
      IsRun z o parties past (steps_of party times) (replicate times e) →
      run_walk z o parties line limit past party others ≡ steps_then (replicate times (record { line = line; event = e })) (others (after_times times e past))
  run_ends o parties line zero limit past party e others ends some within quiet run = absurd (omega (arith, some))
  run_ends o parties line (suc times) zero past party e others ends some within quiet run = absurd (omega (arith, within))
  run_ends o parties line (suc zero) (suc limit) past party e others ends some within quiet run =
      run_step o parties line limit past party e others (event_is z o parties past party Input.Go e run.0)
      ∙ ap (λ (b : Bool). step_then (record { line = line; event = e }) (cond b (run_walk z o parties line limit (e ∷ past) party others) (others (e ∷ past)))) ends
  run_ends o parties line (suc (suc times)) (suc limit) past party e others ends some within quiet run =
      let goes = (quiet (omega arith)).goes_on in
      let on : goes_on e.then ≡ true = rw goes refl in
      absurd (differ (goes_on e.then) on ends)
    where
      differ : (b : Bool) → b ≡ true → b ≡ false → ⊥
      differ true e f = absurd cc
      differ false e f = absurd cc

  -- What the player tells.

  pub turn_done : (o : Object T) (parties : ℕ) (past : List Ev) (old new : Command T) (machine : Configuration T) → old.task ≡ Task.Go 0 → StandsAt z o parties past machine → IsTurn z o parties past old new machine (Ok None)
  unfolding go_walk
  turn_done o parties past old new machine asked stands = (λ line others. rw asked refl, stands)

  pub turn_limited : (o : Object T) (parties : ℕ) (past : List Ev) (old new : Command T) (machine : Configuration T) → old.task ≡ Task.Run 0 → IsTurn z o parties past old new machine (Err LineFault.StepLimit)
  unfolding run_walk
  turn_limited o parties past old new machine asked line others = rw asked refl

  pub turn_given : (o : Object T) (parties : ℕ) (past : List Ev) (old new : Command T) (input : Input T) (e : Ev) (machine machine' : Configuration T) → old.task ≡ Task.Give input → new.task ≡ Task.Go 0 → StandsAt z o parties past machine →
      Steps z machine old.party input e machine' → IsTurn z o parties past old new machine' (Ok (Some (record { event = e; times = 1 })))
  unfolding go_walk
  turn_given o parties past old new input e machine machine' asked left stands steps =
      let s = steps o parties past stands in
      let is = event_is z o parties past old.party input e s.0 in
      (λ line others. rw (asked, left, is) refl, s.1)

  pub turn_not_given : (o : Object T) (parties : ℕ) (past : List Ev) (old new : Command T) (input : Input T) (fault : StepFault) (machine machine' : Configuration T) → old.task ≡ Task.Give input → StandsAt z o parties past machine →
      RefusesStep z machine old.party input fault → IsTurn z o parties past old new machine' (Err (line_fault_of fault))
  turn_not_given o parties past old new input fault machine machine' h1 h2 h3 = grind (arith, nat_tests, eqb-true, eqb-false, event_refused)

  pub turn_goes : (o : Object T) (parties : ℕ) (past : List Ev) (old new : Command T) (steps : ℕ) (stride : EventStride T) (machine machine' : Configuration T) → old.task ≡ Task.Go steps → new.party ≡ old.party → new.task ≡ Task.Go (steps - stride.times) →
      stride.times ≤ steps → StandsAt z o parties past machine → Strides z machine old.party stride.event stride.times machine' → IsTurn z o parties past old new machine' (Ok (Some stride))
  turn_goes o parties past old new steps stride machine machine' h1 h2 h3 h4 h5 h6 = grind (arith, nat_tests, eqb-true, eqb-false, goes_so_often)

  pub turn_refused : (o : Object T) (parties : ℕ) (past : List Ev) (old new : Command T) (steps : ℕ) (fault : StepFault) (machine machine' : Configuration T) → old.task ≡ Task.Go steps → 0 < steps → StandsAt z o parties past machine →
      RefusesStep z machine old.party Input.Go fault → IsTurn z o parties past old new machine' (Err (line_fault_of fault))
  unfolding go_walk
  turn_refused o parties past old new zero fault machine machine' asked some stands refuses line others = absurd (omega (arith, some))
  turn_refused o parties past old new (suc steps) fault machine machine' asked some stands refuses line others =
      rw (asked, event_refused z o parties past old.party Input.Go fault (refuses o parties past stands)) refl

  pub turn_runs : (o : Object T) (parties : ℕ) (past : List Ev) (old new : Command T) (limit : ℕ) (stride : EventStride T) (machine machine' : Configuration T) → old.task ≡ Task.Run limit → new.party ≡ old.party →
      new.task ≡ Task.Run (limit - stride.times) → goes_on stride.event.then ≡ true → stride.times ≤ limit → StandsAt z o parties past machine → Strides z machine old.party stride.event stride.times machine' →
      IsTurn z o parties past old new machine' (Ok (Some stride))
  turn_runs o parties past old new limit stride machine machine' h1 h2 h3 h4 h5 h6 h7 = grind (arith, nat_tests, eqb-true, eqb-false, runs_so_often)

  pub turn_ends : (o : Object T) (parties : ℕ) (past : List Ev) (old new : Command T) (limit : ℕ) (stride : EventStride T) (machine machine' : Configuration T) → old.task ≡ Task.Run limit → new.task ≡ Task.Go 0 →
      goes_on stride.event.then ≡ false → 0 < stride.times → stride.times ≤ limit → (1 < stride.times → IsQuiet stride.event) → StandsAt z o parties past machine →
      Strides z machine old.party stride.event stride.times machine' → IsTurn z o parties past old new machine' (Ok (Some stride))
  unfolding go_walk
  turn_ends o parties past old new limit stride machine machine' asked left ends some within quiet stands strides =
      let s = strides o parties past stands in
      (λ line others. rw (asked, left) (run_ends o parties line stride.times limit past old.party stride.event others ends some within quiet s.run), s.stands)

  pub turn_by_run : (o : Object T) (parties : ℕ) (past : List (Event T)) (old new : Command T) (limit : ℕ) (stride : EventStride T) (machine machine' : Configuration T) → old.task ≡ Task.Run limit → new.party ≡ old.party →
      new.task ≡ left_after (Task.Run limit) stride → 0 < stride.times → stride.times ≤ limit → (1 < stride.times → IsQuiet stride.event) → StandsAt z o parties past machine →
      Strides z machine old.party stride.event stride.times machine' → IsTurn z o parties past old new machine' (Ok (Some stride))
  turn_by_run o parties past old new limit stride machine machine' asked party left some within quiet stands strides = decided (goes_on stride.event.then) refl left
    where
      decided : (goes : Bool) → goes_on stride.event.then ≡ goes → new.task ≡ cond goes (Task.Run (limit - stride.times)) (Task.Go 0) → IsTurn z o parties past old new machine' (Ok (Some stride))
      decided true goes is = turn_runs o parties past old new limit stride machine machine' asked party is goes within stands strides
      decided false ends is = turn_ends o parties past old new limit stride machine machine' asked is ends some within quiet stands strides

  pub run_refused : (o : Object T) (parties : ℕ) (past : List Ev) (old new : Command T) (limit : ℕ) (fault : StepFault) (machine machine' : Configuration T) → old.task ≡ Task.Run limit → 0 < limit → StandsAt z o parties past machine →
      RefusesStep z machine old.party Input.Go fault → IsTurn z o parties past old new machine' (Err (line_fault_of fault))
  unfolding run_walk
  run_refused o parties past old new zero fault machine machine' asked some stands refuses line others = absurd (omega (arith, some))
  run_refused o parties past old new (suc limit) fault machine machine' asked some stands refuses line others =
      rw (asked, event_refused z o parties past old.party Input.Go fault (refuses o parties past stands)) refl

  -- so many steps, or steps up to an end, and at most so many
  abbrev pub AsksSteps : ℕ → Task T → Type 0
  AsksSteps limit task = (task ≡ Task.Go limit) ⊎ (task ≡ Task.Run limit)

  pub turn_strides : (o : Object T) (parties : ℕ) (past : List (Event T)) (old new : Command T) (limit : ℕ) (stride : EventStride T) (machine machine' : Configuration T) → AsksSteps limit old.task → new.party ≡ old.party →
      new.task ≡ left_after old.task stride → 0 < stride.times → stride.times ≤ limit → (1 < stride.times → IsQuiet stride.event) → StandsAt z o parties past machine →
      Strides z machine old.party stride.event stride.times machine' → IsTurn z o parties past old new machine' (Ok (Some stride))
  turn_strides o parties past old new limit stride machine machine' (inl asked) party left some within quiet stands strides =
      turn_goes o parties past old new limit stride machine machine' asked party (left ∙ ap (λ (task : Task T). left_after task stride) asked) within stands strides
  turn_strides o parties past old new limit stride machine machine' (inr asked) party left some within quiet stands strides =
      turn_by_run o parties past old new limit stride machine machine' asked party (left ∙ ap (λ (task : Task T). left_after task stride) asked) some within quiet stands strides

  pub stride_refused : (o : Object T) (parties : ℕ) (past : List (Event T)) (old new : Command T) (limit : ℕ) (fault : StepFault) (machine machine' : Configuration T) → AsksSteps limit old.task → 0 < limit → StandsAt z o parties past machine →
      RefusesStep z machine old.party Input.Go fault → IsTurn z o parties past old new machine' (Err (line_fault_of fault))
  stride_refused o parties past old new limit fault machine machine' (inl asked) some stands refuses = turn_refused o parties past old new limit fault machine machine' asked some stands refuses
  stride_refused o parties past old new limit fault machine machine' (inr asked) some stands refuses = run_refused o parties past old new limit fault machine machine' asked some stands refuses

module _ {T : Type 0} (z : Arithmetic T) (numerals : Numerals T) where
  -- What the walker finds.

  -- the rest of the text after the line
  abbrev others_of : Object T → ℕ → ℕ → List ℕ → List (Event T) → Walk T
  others_of o parties line lines there = lines_walk z numerals o parties (line + 1) (lines_of lines) there

  -- events
  pub walk_strides : (o : Object T) (parties line : ℕ) (past : List (Event T)) (old new : Command T) (lines : List ℕ) (told : Option (EventStride T)) (stride : EventStride T) (machine : Configuration T) → told ≡ Some stride →
      IsTurn z o parties past old new machine (Ok told) →
      walk_from z numerals o parties past line old lines ≡ steps_then (replicate stride.times (record { line = line; event = stride.event })) (walk_from z numerals o parties (after_times stride.times stride.event past) line new lines)
  walk_strides o parties line past old new lines told stride machine h1 h2 = grind (arith, nat_tests, eqb-true, eqb-false)

  pub walk_stands : (o : Object T) (parties : ℕ) (past : List (Event T)) (old new : Command T) (told : Option (EventStride T)) (stride : EventStride T) (machine : Configuration T) → told ≡ Some stride → IsTurn z o parties past old new machine (Ok told) →
      StandsAt z o parties (after_times stride.times stride.event past) machine
  walk_stands o parties past old new told stride machine some turn = (subst (λ (x : Option (EventStride T)). IsTurn z o parties past old new machine (Ok x)) some turn).1

  -- a fault
  pub walk_stops : (o : Object T) (parties line : ℕ) (past : List (Event T)) (old new : Command T) (lines : List ℕ) (fault : LineFault) (machine : Configuration T) → IsTurn z o parties past old new machine (Err fault) →
      walk_from z numerals o parties past line old lines ≡ stopped line fault
  walk_stops o parties line past old new lines fault machine turn = turn line (others_of o parties line lines)

  -- nothing, so that the walk goes on by the lines
  pub walk_passes : (o : Object T) (parties line : ℕ) (past : List (Event T)) (old new : Command T) (lines : List ℕ) (told : Option (EventStride T)) (machine : Configuration T) → told ≡ None → IsTurn z o parties past old new machine (Ok told) →
      walk_from z numerals o parties past line old lines ≡ lines_walk z numerals o parties (line + 1) (lines_of lines) past
  walk_passes o parties line past old new lines told machine h1 h2 = grind (arith, nat_tests, eqb-true, eqb-false)

  pub pass_stands : (o : Object T) (parties : ℕ) (past : List (Event T)) (old new : Command T) (told : Option (EventStride T)) (machine : Configuration T) → told ≡ None → IsTurn z o parties past old new machine (Ok told) →
      StandsAt z o parties past machine
  pass_stands o parties past old new told machine none turn = (subst (λ (x : Option (EventStride T)). IsTurn z o parties past old new machine (Ok x)) none turn).1

  -- the lines: there is none, or the first asks something, or has a fault

  pub lines_end : (o : Object T) (parties number : ℕ) (past : List (Event T)) (lines : List (List ℕ)) → lines ≡ [] → lines_walk z numerals o parties number lines past ≡ ended
  unfolding lines_walk
  lines_end o parties number past lines none = rw none refl

  pub lines_go_on : (o : Object T) (parties number : ℕ) (past : List (Event T)) (lines : List (List ℕ)) (line rest : List ℕ) (command : Command T) → lines ≡ line ∷ lines_of rest → Ok command ≡ asked numerals o (words_of line) →
      lines_walk z numerals o parties number lines past ≡ walk_from z numerals o parties past number command rest
  unfolding lines_walk
  lines_go_on o parties number past lines line rest command same is = rw (same, ← is) refl

  pub lines_stop : (o : Object T) (parties number : ℕ) (past : List (Event T)) (lines : List (List ℕ)) (line rest : List ℕ) (fault : LineFault) → lines ≡ line ∷ lines_of rest → Err fault ≡ asked numerals o (words_of line) →
      lines_walk z numerals o parties number lines past ≡ stopped number fault
  unfolding lines_walk
  lines_stop o parties number past lines line rest fault same is = rw (same, ← is) refl
