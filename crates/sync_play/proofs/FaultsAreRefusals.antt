-- A text's fault is that of its first refused line, and every refused line is told.
use Rattle.sync_play.proofs.Names.{nat_tests, eqb-true, eqb-false, ◌≡◌, ℕ, zero, suc, ◌+◌, Bool, true, cond, List, [], ◌∷◌, ◌++◌, length, Option, Some, None, Result, Ok, Err, ◌⊎◌, inl, inr, refl, sym, ap, subst, ◌∙◌, arith, HasValues, command_values, Event, Input, Object, StepFault, Arithmetic, Move, goes_on, InputValues, fault_of, move_of, IsNext, after, IsRun, FaultyLine, LineFault, Header, Command, Task, command_of, ◌>>=◌, at_line, line_fault_of, words_of, header_of, Numerals, ReadsValues, event_by, unless_refused, event_of, events_of, run_of, steps_of, task_events, events_asked, line_events, output_after, typed_output, printed, LinesAsk, GoOn, IsRefusedAt, RunRefused, TaskRefused, LineRefused, LaterLineRefused, IsRefusedLine}
use Rattle.sync_play.proofs.Moves.{HavePlacesAt, none_have_places, next_has_places_at, run_has_places, allowed_moves}
use Rattle.sync_play.proofs.RunsAreOutputs.{no_inputs, cut_run, line_is}
use Rattle.sync_play.proofs.OutputsAreRuns.{ok_at_line, next_is, run_of_both, line_runs}
use Rattle.sync_play.proofs.PlayerLaws.{event_is, event_refused, run_length, run_refused as schedule_refused}
use Rattle.sync_play.proofs.TextLaws.{after_both, asks_wrongly, asks_command, line_then, line_fails, text_is_empty, header_fails, header_is}

-- A step that may fail fails at first, or afterwards.

pub fails : {A B E : Type 0} (r : Result A E) (f : A → Result B E) (fault : E) → (r >>= f) ≡ Err fault → (r ≡ Err fault) ⊎ ((x : A) × (r ≡ Ok x) × (f x ≡ Err fault))
fails r f fault h1 = grind (arith, nat_tests, eqb-true, eqb-false)

inner : {A B E : Type 0} (r : Result A E) (f : A → B) (fault : E) → (r >>= λ x. Ok (f x)) ≡ Err fault → r ≡ Err fault
inner r f fault h1 = grind (arith, nat_tests, eqb-true, eqb-false)

module _ {T : Type 0} (z : Arithmetic T) (numerals : Numerals T) (reads : ReadsValues z numerals) where
  abbrev Ev : Type 0
  Ev = Event T

  -- An input.

  record InputRefused (o : Object T) (parties : ℕ) (past : List Ev) (party : ℕ) (input : Input T) (fault : LineFault) : Type 0 where
    refusal : StepFault
    refused : fault_of z o parties past party input ≡ Some refusal
    word : fault ≡ line_fault_of refusal

  refused_by : (party : ℕ) (refused : Option StepFault) (move : Option (Move T)) (fault : LineFault) → (refused ≡ None → move ≡ None → ⊥)
      → unless_refused refused (event_by party move) ≡ Err fault → (refusal : StepFault) × (refused ≡ Some refusal) × (fault ≡ line_fault_of refusal)
  refused_by party refused move fault h1 h2 = grind (arith, nat_tests, eqb-true, eqb-false)

  input_refused : (o : Object T) (parties : ℕ) (past : List Ev) (party : ℕ) (input : Input T) (fault : LineFault) → HavePlacesAt z o past → event_of z o parties past party input ≡ Err fault → InputRefused o parties past party input fault
  unfolding event_of
  input_refused o parties past party input fault had e =
      let r = refused_by party (fault_of z o parties past party input)
      (move_of z o past party input) fault
      (λ allowed none. allowed_moves z o parties past party input had allowed none) e in
      record { refusal = r.0; refused = r.1; word = r.2 }

  -- A schedule.

  abbrev Values : List (ℕ × Input T) → Type 0
  Values [] = Unit {0}
  Values (turn ∷ schedule) = InputValues z turn.1 × Values schedule

  step_values : (n party : ℕ) → Values (steps_of n party)
  unfolding steps_of
  step_values zero party = tt
  step_values (suc n) party = (tt, step_values n party)

  abbrev RefusedAt : Object T → ℕ → List Ev → List (ℕ × Input T) → LineFault → Type 0
  RefusedAt o parties past schedule fault = (events : List Ev) × IsRefusedAt z o parties past schedule events fault

  refused_first : (o : Object T) (parties : ℕ) (past : List Ev) (turn : ℕ × Input T) (schedule : List (ℕ × Input T)) (fault : LineFault) → InputRefused o parties past turn.0 turn.1 fault → IsRefusedAt z o parties past (turn ∷ schedule) [] fault
  refused_first o parties past turn schedule fault r =
      record { before = []; turn = turn; others = schedule; schedule_is = refl; run = tt; refusal = r.refusal; refused = r.refused; word = r.word }

  refused_later : (o : Object T) (parties : ℕ) (past : List Ev) (turn : ℕ × Input T) (schedule : List (ℕ × Input T)) (e : Ev) (events : List Ev) (fault : LineFault) → IsNext z o parties past turn.0 turn.1 e
      → IsRefusedAt z o parties (e ∷ past) schedule events fault → IsRefusedAt z o parties past (turn ∷ schedule) (e ∷ events) fault
  refused_later o parties past turn schedule e events fault n r =
      record { before = turn ∷ r.before; turn = r.turn; others = r.others; schedule_is = ap (λ (l : List (ℕ × Input T)). turn ∷ l) r.schedule_is; run = (n, r.run); refusal = r.refusal; refused = r.refused; word = r.word }

  events_refused : (o : Object T) (parties : ℕ) (past : List Ev) (schedule : List (ℕ × Input T)) (fault : LineFault) → HavePlacesAt z o past → Values schedule → events_of z o parties past schedule ≡ Err fault → RefusedAt o parties past schedule fault
  unfolding events_of
  events_refused o parties past [] fault had values h = absurd cc
  events_refused o parties past (turn ∷ schedule) fault had values h =
      elim (fails (event_of z o parties past turn.0 turn.1) (λ e. events_of z o parties (e ∷ past) schedule >>= λ es. Ok (e ∷ es)) fault h) [
        | inl at ↦ ([], refused_first o parties past turn schedule fault (input_refused o parties past turn.0 turn.1 fault had at))
        | inr later ↦
            let n = next_is z numerals reads o parties past turn.0 turn.1 later.0 values.0 later.1 in
            let r = events_refused o parties (later.0 ∷ past) schedule fault (next_has_places_at z o parties past turn.0 turn.1 later.0 had n) values.1
            (inner (events_of z o parties (later.0 ∷ past) schedule) (λ es. later.0 ∷ es) fault later.2) in
            (later.0 ∷ r.0, refused_later o parties past turn schedule later.0 r.0 fault n r.1)
      ]

  -- A run to an end.

  refused_on : (o : Object T) (parties : ℕ) (past : List Ev) (party limit : ℕ) (e : Ev) (fault : LineFault) → IsNext z o parties past party Input.Go e → goes_on e.then ≡ true → RunRefused z o parties (e ∷ past) party limit fault
      → RunRefused z o parties past party (suc limit) fault
  unfolding steps_of
  refused_on o parties past party limit e fault n goes (inl r) = inl (e ∷ r.0, (goes, r.1), refused_later o parties past (party, Input.Go) (steps_of limit party) e r.0 fault n r.2)
  refused_on o parties past party limit e fault n goes (inr r) = inr (e ∷ r.0, (goes, r.1), (n, r.2), r.3)

  goes_or_ends : (e : Ev) (b : Bool) (more : Result (List Ev) LineFault) (fault : LineFault) → goes_on e.then ≡ b → cond b (more >>= λ es. Ok (e ∷ es)) (Ok (e ∷ [])) ≡ Err fault → (goes_on e.then ≡ true) × (more ≡ Err fault)
  goes_or_ends e b more fault h1 h2 = grind (arith, nat_tests, eqb-true, eqb-false, inner)

  run_refused : (o : Object T) (parties : ℕ) (past : List Ev) (party limit : ℕ) (fault : LineFault) → HavePlacesAt z o past → run_of z o parties limit past party ≡ Err fault → RunRefused z o parties past party limit fault
  unfolding run_of steps_of
  run_refused o parties past party zero fault had h = inr ([], tt, tt, cc)
  run_refused o parties past party (suc limit) fault had h =
      elim (fails (event_of z o parties past party Input.Go) (λ e. cond (goes_on e.then) (run_of z o parties limit (e ∷ past) party >>= λ es. Ok (e ∷ es)) (Ok (e ∷ []))) fault h) [
        | inl at ↦ inl ([], tt, refused_first o parties past (party, Input.Go) (steps_of limit party) fault (input_refused o parties past party Input.Go fault had at))
        | inr later ↦
            let n = next_is z numerals reads o parties past party Input.Go later.0 tt later.1 in
            let g = goes_or_ends later.0 (goes_on later.0.then) (run_of z o parties limit (later.0 ∷ past) party) fault refl later.2 in
            refused_on o parties past party limit later.0 fault n g.0 (run_refused o parties (later.0 ∷ past) party limit fault (next_has_places_at z o parties past party Input.Go later.0 had n) g.1)
      ]

  -- A line.

  task_refused : (o : Object T) (parties : ℕ) (past : List Ev) (party : ℕ) (task : Task T) (fault : LineFault) → HavePlacesAt z o past → HasValues z numerals reads task → task_events z o parties past party task ≡ Err fault → TaskRefused z o parties past party task fault
  task_refused o parties past party (Task.Give input) fault had values h = events_refused o parties past ((party, input) ∷ []) fault had (values, tt) h
  task_refused o parties past party (Task.Go n) fault had values h = events_refused o parties past (steps_of n party) fault had (step_values n party) h
  task_refused o parties past party (Task.Run limit) fault had values h = run_refused o parties past party limit fault had h

  asked_refused : (o : Object T) (parties : ℕ) (past : List Ev) (words : List (List ℕ)) (asked : Option (Command T)) (fault : LineFault) → HavePlacesAt z o past → command_of numerals o words ≡ Ok asked → events_asked z numerals o parties past asked ≡ Err fault
      → LineRefused z numerals o parties past words fault
  asked_refused o parties past words None fault had is h = absurd cc
  asked_refused o parties past words (Some command) fault had is h =
      inr (command, is, task_refused o parties past command.party command.task fault had (command_values z numerals reads o words command is) h)

  line_refused : (o : Object T) (parties : ℕ) (past : List Ev) (words : List (List ℕ)) (fault : LineFault) → HavePlacesAt z o past → line_events z numerals o parties past words ≡ Err fault → LineRefused z numerals o parties past words fault
  unfolding line_events
  line_refused o parties past words fault had h =
      elim (fails (command_of numerals o words) (λ asked. events_asked z numerals o parties past asked) fault h) [
        | inl at ↦ inl at
        | inr later ↦ asked_refused o parties past words later.0 fault had later.1 later.2
      ]

  -- The lines of a text.

  pub record FirstRefused (o : Object T) (parties : ℕ) (past : List Ev) (number : ℕ) (lines : List (List ℕ)) (told : ℕ) (fault : LineFault) : Type 0 where
    pub before : List (List ℕ)
    pub line : List ℕ
    pub others : List (List ℕ)
    pub lines_are : lines ≡ before ++ (line ∷ others)
    pub number_is : told ≡ length before + number
    pub schedule : List (ℕ × Input T)
    pub events : List Ev
    pub asks : LinesAsk numerals o before schedule events
    pub run : IsRun z o parties past schedule events
    pub refused : LineRefused z numerals o parties (after events past) (words_of line) fault

  at_fails : {A : Type 0} (n : ℕ) (r : Result A LineFault) (fault : FaultyLine) → at_line n r ≡ Err fault → (r ≡ Err fault.fault) × (fault.line ≡ n)
  at_fails n r fault h1 = grind (arith, nat_tests, eqb-true, eqb-false)

  refused_here : (o : Object T) (parties : ℕ) (past : List Ev) (number : ℕ) (line : List ℕ) (lines : List (List ℕ)) (told : ℕ) (fault : LineFault) → told ≡ number → LineRefused z numerals o parties past (words_of line) fault
      → FirstRefused o parties past number (line ∷ lines) told fault
  refused_here o parties past number line lines told fault same r =
      record { before = []; line = line; others = lines; lines_are = refl; number_is = let known = same in omega arith; schedule = []; events = []; asks = refl; run = tt; refused = r }

  refused_below : (o : Object T) (parties : ℕ) (past : List Ev) (number : ℕ) (line : List ℕ) (lines : List (List ℕ)) (told : ℕ) (fault : LineFault) (front : List Ev) → line_events z numerals o parties past (words_of line) ≡ Ok front
      → FirstRefused o parties (after front past) (number + 1) lines told fault → FirstRefused o parties past number (line ∷ lines) told fault
  refused_below o parties past number line lines told fault front is r =
      let here = line_runs z numerals reads o parties past (words_of line) front is in
      record {
        before = line ∷ r.before;
        line = r.line;
        others = r.others;
        lines_are = ap (λ (l : List (List ℕ)). line ∷ l) r.lines_are;
        number_is = let known = r.number_is in omega arith;
        schedule = here.schedule ++ r.schedule;
        events = front ++ r.events;
        asks = (here.schedule, r.schedule, front, r.events, refl, refl, sym (run_length z o parties past here.schedule front here.run), here.asks, r.asks);
        run = run_of_both z numerals reads o parties past here.schedule r.schedule front r.events here.run r.run;
        refused = rw (after_both front r.events past) r.refused;
      }

  lines_refused : (o : Object T) (parties number : ℕ) (lines : List (List ℕ)) (past : List Ev) (fault : FaultyLine) → HavePlacesAt z o past → output_after z numerals o parties number lines past ≡ Err fault
      → FirstRefused o parties past number lines fault.line fault.fault
  unfolding output_after
  lines_refused o parties number [] past fault had h = absurd cc
  lines_refused o parties number (line ∷ lines) past fault had h =
      elim (fails (at_line number (line_events z numerals o parties past (words_of line))) (λ events. output_after z numerals o parties (number + 1) lines (after events past) >>= λ rest. Ok (printed numerals events ++ rest)) fault h) [
        | inl at ↦
            let here = at_fails number (line_events z numerals o parties past (words_of line)) fault at in
            refused_here o parties past number line lines fault.line fault.fault here.1 (line_refused o parties past (words_of line) fault.fault had here.0)
        | inr later ↦
            let is = ok_at_line number (line_events z numerals o parties past (words_of line)) later.0 later.1 in
            let runs = line_runs z numerals reads o parties past (words_of line) later.0 is in
            refused_below o parties past number line lines fault.line fault.fault later.0 is
            (lines_refused o parties (number + 1) lines (after later.0 past) fault (run_has_places z o parties past runs.schedule later.0 had runs.run)
            (inner (output_after z numerals o parties (number + 1) lines (after later.0 past)) (λ rest. printed numerals later.0 ++ rest) fault later.2))
      ]

  -- The text.

  opened_refused : (first : List ℕ) (lines : List (List ℕ)) (header : Header T) (fault : FaultyLine) → Ok header ≡ header_of numerals (words_of first) → FirstRefused header.object header.parties [] 2 lines fault.line fault.fault
      → LaterLineRefused z numerals first lines fault.line fault.fault
  opened_refused first lines header fault h1 h2 = grind (arith, nat_tests, eqb-true, eqb-false)

  pub text_refused : (lines : List (List ℕ)) (fault : FaultyLine) → typed_output z numerals lines ≡ Err fault → IsRefusedLine z numerals lines fault.line fault.fault
  unfolding typed_output
  text_refused [] fault h =
      let made : FaultyLine = record { line = 1; fault = LineFault.NoObject } in
      let same : made ≡ fault = cc in
      (ap (λ (d : FaultyLine). d.line) (sym same), ap (λ (d : FaultyLine). d.fault) (sym same))
  text_refused (first ∷ lines) fault h =
      elim (fails (at_line 1 (header_of numerals (words_of first))) (λ header. output_after z numerals header.object header.parties 2 lines []) fault h) [
        | inl at ↦ let here = at_fails 1 (header_of numerals (words_of first)) fault at in inl (here.1, here.0)
        | inr later ↦
            inr (opened_refused first lines later.0 fault (sym (ok_at_line 1 (header_of numerals (words_of first)) later.0 later.1))
            (lines_refused later.0.object later.0.parties 2 lines [] fault (none_have_places z later.0.object) later.2))
      ]

  -- Back: what is refused is the fault.

  stepped : (party limit : ℕ) (turn : ℕ × Input T) (rest : List (ℕ × Input T)) → steps_of (suc limit) party ≡ turn ∷ rest → ((party, Input.Go) ≡ turn) × (steps_of limit party ≡ rest)
  unfolding steps_of
  stepped party limit turn rest e = (cc, cc)

  no_steps_are : (party : ℕ) (before others : List (ℕ × Input T)) (turn : ℕ × Input T) → steps_of 0 party ≡ before ++ (turn ∷ others) → ⊥
  unfolding steps_of
  no_steps_are party [] others turn e = cc
  no_steps_are party (t ∷ before) others turn e = cc

  run_stops : (o : Object T) (parties : ℕ) (past : List Ev) (party limit : ℕ) (before others : List (ℕ × Input T)) (turn : ℕ × Input T) (events : List Ev) (refusal : StepFault) → GoOn events → steps_of limit party ≡ before ++ (turn ∷ others)
      → IsRun z o parties past before events → fault_of z o parties (after events past) turn.0 turn.1 ≡ Some refusal → run_of z o parties limit past party ≡ Err (line_fault_of refusal)
  unfolding run_of
  run_stops o parties past party zero before others turn events refusal on same run refused = absurd (no_steps_are party before others turn same)
  run_stops o parties past party (suc limit) [] others turn [] refusal on same run refused =
      let first = stepped party limit turn others same in
      let known : fault_of z o parties past party Input.Go ≡ Some refusal = subst (λ (t : ℕ × Input T). fault_of z o parties past t.0 t.1 ≡ Some refusal) (sym first.0) refused in
      rw (event_refused z o parties past party Input.Go refusal known) refl
  run_stops o parties past party (suc limit) [] others turn (e ∷ events) refusal on same run refused = absurd run
  run_stops o parties past party (suc limit) (t ∷ before) others turn [] refusal on same run refused = absurd run
  run_stops o parties past party (suc limit) (t ∷ before) others turn (e ∷ events) refusal on same run refused =
      let first = stepped party limit t (before ++ (turn ∷ others)) same in
      let n = subst (λ (x : ℕ × Input T). IsNext z o parties past x.0 x.1 e) (sym first.0) run.0 in
      rw (event_is z o parties past party Input.Go e n, on.0, run_stops o parties (e ∷ past) party limit before others turn events refusal on.1 first.1 run.1 refused) refl

  run_is_limited : (o : Object T) (parties : ℕ) (past : List Ev) (party limit : ℕ) (events : List Ev) → GoOn events → IsRun z o parties past (steps_of limit party) events → run_of z o parties limit past party ≡ Err LineFault.StepLimit
  unfolding run_of steps_of
  run_is_limited o parties past party zero events on run = refl
  run_is_limited o parties past party (suc limit) [] on run = absurd run
  run_is_limited o parties past party (suc limit) (e ∷ events) on run =
      rw (event_is z o parties past party Input.Go e run.0, on.0, run_is_limited o parties (e ∷ past) party limit events on.1 run.1) refl

  at_refused : (o : Object T) (parties : ℕ) (past : List Ev) (schedule : List (ℕ × Input T)) (fault : LineFault) → RefusedAt o parties past schedule fault → events_of z o parties past schedule ≡ Err fault
  at_refused o parties past schedule fault r =
      let at = r.1 in
      ap (events_of z o parties past) at.schedule_is ∙ schedule_refused z o parties past at.before at.others at.turn r.0 at.refusal at.run at.refused ∙ ap (λ (f : LineFault). Err f) (sym at.word)

  run_fails : (o : Object T) (parties : ℕ) (past : List Ev) (party limit : ℕ) (fault : LineFault) → RunRefused z o parties past party limit fault → run_of z o parties limit past party ≡ Err fault
  run_fails o parties past party limit fault (inl r) =
      let at = r.2 in
      run_stops o parties past party limit at.before at.others at.turn r.0 at.refusal r.1 at.schedule_is at.run at.refused ∙ ap (λ (f : LineFault). Err f) (sym at.word)
  run_fails o parties past party limit fault (inr r) = run_is_limited o parties past party limit r.0 r.1 r.2 ∙ ap (λ (f : LineFault). Err f) (sym r.3)

  task_fails : (o : Object T) (parties : ℕ) (past : List Ev) (party : ℕ) (task : Task T) (fault : LineFault) → TaskRefused z o parties past party task fault → task_events z o parties past party task ≡ Err fault
  task_fails o parties past party (Task.Give input) fault r = at_refused o parties past ((party, input) ∷ []) fault r
  task_fails o parties past party (Task.Go n) fault r = at_refused o parties past (steps_of n party) fault r
  task_fails o parties past party (Task.Run limit) fault r = run_fails o parties past party limit fault r

  words_fail : (o : Object T) (parties : ℕ) (past : List Ev) (words : List (List ℕ)) (fault : LineFault) → LineRefused z numerals o parties past words fault → line_events z numerals o parties past words ≡ Err fault
  words_fail o parties past words fault h1 = grind (arith, nat_tests, eqb-true, eqb-false, asks_command, asks_wrongly, task_fails)

  below_fails : (o : Object T) (parties number told : ℕ) (line : List ℕ) (lines : List (List ℕ)) (past front : List Ev) (fault : LineFault) → line_events z numerals o parties past (words_of line) ≡ Ok front
      → output_after z numerals o parties (number + 1) lines (after front past) ≡ Err (record { line = told; fault = fault }) → output_after z numerals o parties number (line ∷ lines) past ≡ Err (record { line = told; fault = fault })
  below_fails o parties number told line lines past front fault is h = line_then z numerals o parties number line lines past front (ap (at_line number) is) ∙ rw h refl

  lines_fail : (o : Object T) (parties number told : ℕ) (before others : List (List ℕ)) (line : List ℕ) (past : List Ev) (schedule : List (ℕ × Input T)) (events : List Ev) (fault : LineFault) → told ≡ length before + number
      → LinesAsk numerals o before schedule events → IsRun z o parties past schedule events → LineRefused z numerals o parties (after events past) (words_of line) fault
      → output_after z numerals o parties number (before ++ (line ∷ others)) past ≡ Err (record { line = told; fault = fault })
  lines_fail o parties number told [] others line past schedule events fault is asks run refused =
      let none = no_inputs z numerals o parties past schedule events asks run in
      let here : number ≡ told = omega (arith, is) in
      let at = subst (λ (es : List Ev). LineRefused z numerals o parties (after es past) (words_of line) fault) none refused in
      line_fails z numerals o parties number line others past (record { line = number; fault = fault }) (ap (at_line number) (words_fail o parties past (words_of line) fault at)) ∙ ap (λ (n : ℕ). Err (record { line = n; fault = fault })) here
  lines_fail o parties number told (first ∷ before) others line past schedule events fault is asks run refused =
      let front = asks.2 in
      let back = asks.3 in
      let here = subst (λ (es : List Ev). IsRun z o parties past schedule es) asks.5 run in
      let cut = cut_run z numerals o parties past asks.0 asks.1 front back asks.6 (subst (λ (l : List (ℕ × Input T)). IsRun z o parties past l (front ++ back)) asks.4 here) in
      let there : after events past ≡ after back (after front past) = ap (λ (es : List Ev). after es past) asks.5 ∙ after_both front back past in
      below_fails o parties number told first (before ++ (line ∷ others)) past front fault (line_is z numerals o parties past (words_of first) asks.0 front asks.7 cut.first_run)
      (lines_fail o parties (number + 1) told before others line (after front past) asks.1 back fault (omega (arith, is)) asks.8 cut.others_run
      (subst (λ (p : List Ev). LineRefused z numerals o parties p (words_of line) fault) there refused))

  later_line_fails : (lines : List (List ℕ)) (first : List ℕ) (others : List (List ℕ)) (number : ℕ) (fault : LineFault) → lines ≡ first ∷ others → LaterLineRefused z numerals first others number fault → typed_output z numerals lines ≡ Err (record { line = number; fault = fault })
  later_line_fails lines first others number fault same r =
      header_is z numerals lines first others r.header same (sym r.names)
      ∙ ap (λ (ls : List (List ℕ)). output_after z numerals r.header.object r.header.parties 2 ls []) r.lines_are
      ∙ lines_fail r.header.object r.header.parties 2 number r.before r.others r.line [] r.schedule r.events fault r.number_is r.asks r.run r.refused

  pub text_fails : (lines : List (List ℕ)) (number : ℕ) (fault : LineFault) → IsRefusedLine z numerals lines number fault → typed_output z numerals lines ≡ Err (record { line = number; fault = fault })
  text_fails [] number fault r = rw (r.0, r.1) (text_is_empty z numerals [] refl)
  text_fails (first ∷ lines) number fault (inl r) = rw r.0 (header_fails z numerals (first ∷ lines) first lines fault refl (sym r.1))
  text_fails (first ∷ lines) number fault (inr r) = later_line_fails (first ∷ lines) first lines number fault refl r
