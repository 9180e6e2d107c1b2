-- Where a text has an output, it is what a run of the text's inputs prints.
use Rattle.sync_play.proofs.Names.{nat_tests, eqb-true, eqb-false, ◌≡◌, ℕ, zero, suc, ◌+◌, ◌≤◌, Bool, true, false, cond, List, [], ◌∷◌, ◌++◌, Option, Some, None, Result, Ok, refl, sym, ap, subst, ◌∙◌, append_assoc, arith, flat_map-append, bind_ok, ok_is, HasValues, command_values, Event, Input, Object, StepFault, Arithmetic, Move, goes_on, InputValues, call_of, hold_of, table_of, word_in, fault_of, move_of, IsNext, after, IsRun, FaultyLine, LineFault, Task, Command, ◌>>=◌, at_line, command_of, words_of, header_of, Numerals, ReadsValues, event_by, unless_refused, event_of, events_of, run_of, steps_of, task_events, events_asked, line_events, output_after, typed_output, printed, event_lines, last_line, EndsFirstAtLast, AreInputsOf, LineAsks, LinesAsk, IsRunOfLines}
use Rattle.model_events.proofs.Steps.{form_of_move}
use Rattle.sync_play.proofs.PlayerLaws.{run_length}
use Rattle.sync_play.proofs.TextLaws.{after_both}

-- Steps that may fail, with any kind of fault.

abbrev ok_in : {A E : Type 0} → A → Result A E
ok_in x = Ok x

pub same_ok : {A E : Type 0} (x y : A) → ok_in {E = E} x ≡ ok_in y → x ≡ y
same_ok x y e = cc

pub bind_in : {A B E : Type 0} (r : Result A E) (f : A → Result B E) (y : B) → (r >>= f) ≡ Ok y → (x : A) × (r ≡ Ok x) × (f x ≡ Ok y)
bind_in r f y h1 = grind (arith, nat_tests, eqb-true, eqb-false)

pub ok_at_line : {A : Type 0} (n : ℕ) (r : Result A LineFault) (x : A) → at_line n r ≡ Ok x → r ≡ Ok x
ok_at_line n r x h1 = grind (arith, nat_tests, eqb-true, eqb-false, same_ok)

module _ {T : Type 0} (z : Arithmetic T) (numerals : Numerals T) (reads : ReadsValues z numerals) where
  abbrev Ev : Type 0
  Ev = Event T

  -- The event of an input is the next.

  record IsAllowed (party : ℕ) (fault : Option StepFault) (move : Option (Move T)) (e : Ev) : Type 0 where
    allowed : fault ≡ None
    party_is : e.party ≡ party
    moved : move ≡ Some (record { act = e.act; outcome = e.then })

  allowed_by : (party : ℕ) (fault : Option StepFault) (move : Option (Move T)) (e : Ev) → unless_refused fault (event_by party move) ≡ Ok e → IsAllowed party fault move e
  allowed_by party fault move e h1 = grind (arith, nat_tests, eqb-true, eqb-false, same_ok)

  pub next_is : (o : Object T) (parties : ℕ) (past : List Ev) (party : ℕ) (input : Input T) (e : Ev) → InputValues z input → event_of z o parties past party input ≡ Ok e → IsNext z o parties past party input e
  unfolding event_of
  next_is o parties past party input e values h =
      let a = allowed_by party (fault_of z o parties past party input) (move_of z o past party input) e h in
      record {
        allowed = a.allowed;
        values = values;
        party_is = a.party_is;
        form = form_of_move (table_of z o) (call_of party past) (hold_of (table_of z o) party past) (word_in z o past) input _ a.moved;
        moved = a.moved;
      }

  -- The events of a line are a run.

  pub run_of_both : (o : Object T) (parties : ℕ) (past : List Ev) (first others : List (ℕ × Input T)) (front back : List Ev) → IsRun z o parties past first front → IsRun z o parties (after front past) others back
      → IsRun z o parties past (first ++ others) (front ++ back)
  run_of_both o parties past [] others [] back h k = k
  run_of_both o parties past [] others (e ∷ front) back h k = absurd h
  run_of_both o parties past (turn ∷ first) others [] back h k = absurd h
  run_of_both o parties past (turn ∷ first) others (e ∷ front) back h k = (h.0, run_of_both o parties (e ∷ past) first others front back h.1 k)

  one_is_run : (o : Object T) (parties : ℕ) (past : List Ev) (party : ℕ) (input : Input T) (events : List Ev) → InputValues z input → events_of z o parties past ((party, input) ∷ []) ≡ Ok events → IsRun z o parties past ((party, input) ∷ []) events
  unfolding events_of
  one_is_run o parties past party input events values h =
      let a = bind_ok (event_of z o parties past party input) (λ e. Ok (e ∷ [])) events h in
      subst (λ (es : List Ev). IsRun z o parties past ((party, input) ∷ []) es) (ok_is (a.0 ∷ []) events a.2) (next_is o parties past party input a.0 values a.1, tt)

  steps_are_run : (o : Object T) (parties : ℕ) (past : List Ev) (party n : ℕ) (events : List Ev) → events_of z o parties past (steps_of n party) ≡ Ok events → IsRun z o parties past (steps_of n party) events
  unfolding events_of steps_of
  steps_are_run o parties past party zero events h = subst (λ (es : List Ev). IsRun z o parties past [] es) (ok_is [] events h) tt
  steps_are_run o parties past party (suc n) events h =
      let a = bind_ok (event_of z o parties past party Input.Go) (λ e. events_of z o parties (e ∷ past) (steps_of n party) >>= λ es. Ok (e ∷ es)) events h in
      let b = bind_ok (events_of z o parties (a.0 ∷ past) (steps_of n party)) (λ es. Ok (a.0 ∷ es)) events a.2 in
      subst (λ (es : List Ev). IsRun z o parties past ((party, Input.Go) ∷ steps_of n party) es) (ok_is (a.0 ∷ b.0) events b.2)
      (next_is o parties past party Input.Go a.0 tt a.1, steps_are_run o parties (a.0 ∷ past) party n b.0 b.1)

  record RunsToEnd (o : Object T) (parties : ℕ) (past : List Ev) (party limit : ℕ) (events : List Ev) : Type 0 where
    steps : ℕ
    within : steps ≤ limit
    run : IsRun z o parties past (steps_of steps party) events
    ends : EndsFirstAtLast events

  ends_later : (e : Ev) (events : List Ev) → goes_on e.then ≡ true → EndsFirstAtLast events → EndsFirstAtLast (e ∷ events)
  ends_later e events h1 h2 = grind (arith, nat_tests, eqb-true, eqb-false)

  step_again : (o : Object T) (parties : ℕ) (past : List Ev) (party limit : ℕ) (e : Ev) (events : List Ev) → IsNext z o parties past party Input.Go e → goes_on e.then ≡ true → RunsToEnd o parties (e ∷ past) party limit events
      → RunsToEnd o parties past party (suc limit) (e ∷ events)
  unfolding steps_of
  step_again o parties past party limit e events n h r =
      let within = r.within in
      record { steps = suc r.steps; within = omega arith; run = (n, r.run); ends = ends_later e events h r.ends }

  step_last : (o : Object T) (parties : ℕ) (past : List Ev) (party limit : ℕ) (e : Ev) → IsNext z o parties past party Input.Go e → goes_on e.then ≡ false → RunsToEnd o parties past party (suc limit) (e ∷ [])
  unfolding steps_of
  step_last o parties past party limit e n h = record { steps = 1; within = omega arith; run = (n, tt); ends = h }

  step_either : (o : Object T) (parties : ℕ) (past : List Ev) (party limit : ℕ) (e : Ev) (b : Bool) (more : Result (List Ev) LineFault) (events : List Ev) → IsNext z o parties past party Input.Go e → goes_on e.then ≡ b
      → ((es : List Ev) → more ≡ Ok es → RunsToEnd o parties (e ∷ past) party limit es) → cond b (more >>= λ es. Ok (e ∷ es)) (Ok (e ∷ [])) ≡ Ok events → RunsToEnd o parties past party (suc limit) events
  step_either o parties past party limit e true more events n g k h =
      let b = bind_ok more (λ es. Ok (e ∷ es)) events h in
      subst (λ (es : List Ev). RunsToEnd o parties past party (suc limit) es) (ok_is (e ∷ b.0) events b.2) (step_again o parties past party limit e b.0 n g (k b.0 b.1))
  step_either o parties past party limit e false more events n g k h =
      subst (λ (es : List Ev). RunsToEnd o parties past party (suc limit) es) (ok_is (e ∷ []) events h) (step_last o parties past party limit e n g)

  run_to_end : (o : Object T) (parties : ℕ) (past : List Ev) (party limit : ℕ) (events : List Ev) → run_of z o parties limit past party ≡ Ok events → RunsToEnd o parties past party limit events
  unfolding run_of
  run_to_end o parties past party zero events h = absurd cc
  run_to_end o parties past party (suc limit) events h =
      let a = bind_ok (event_of z o parties past party Input.Go) (λ e. cond (goes_on e.then) (run_of z o parties limit (e ∷ past) party >>= λ es. Ok (e ∷ es)) (Ok (e ∷ []))) events h in
      step_either o parties past party limit a.0 (goes_on a.0.then) (run_of z o parties limit (a.0 ∷ past) party) events (next_is o parties past party Input.Go a.0 tt a.1) refl
      (λ es k. run_to_end o parties (a.0 ∷ past) party limit es k) a.2

  -- a line's inputs and their run
  pub record LineRuns (o : Object T) (parties : ℕ) (past : List Ev) (words : List (List ℕ)) (events : List Ev) : Type 0 where
    pub schedule : List (ℕ × Input T)
    pub asks : LineAsks numerals o words schedule events
    pub run : IsRun z o parties past schedule events

  record TaskRuns (o : Object T) (parties : ℕ) (past : List Ev) (party : ℕ) (task : Task T) (events : List Ev) : Type 0 where
    schedule : List (ℕ × Input T)
    asks : AreInputsOf party task schedule events
    run : IsRun z o parties past schedule events

  task_runs : (o : Object T) (parties : ℕ) (past : List Ev) (party : ℕ) (task : Task T) (events : List Ev) → HasValues z numerals reads task → task_events z o parties past party task ≡ Ok events → TaskRuns o parties past party task events
  task_runs o parties past party (Task.Give input) events values h = record { schedule = (party, input) ∷ []; asks = refl; run = one_is_run o parties past party input events values h }
  task_runs o parties past party (Task.Go n) events values h = record { schedule = steps_of n party; asks = refl; run = steps_are_run o parties past party n events h }
  task_runs o parties past party (Task.Run limit) events values h =
      let r = run_to_end o parties past party limit events h in
      record { schedule = steps_of r.steps party; asks = (r.steps, r.within, refl, r.ends); run = r.run }

  asked_runs : (o : Object T) (parties : ℕ) (past : List Ev) (words : List (List ℕ)) (asked : Option (Command T)) (events : List Ev) → command_of numerals o words ≡ Ok asked → events_asked z numerals o parties past asked ≡ Ok events → LineRuns o parties past words events
  asked_runs o parties past words None events is h =
      record { schedule = []; asks = (None, is, refl); run = subst (λ (es : List Ev). IsRun z o parties past [] es) (ok_is [] events h) tt }
  asked_runs o parties past words (Some command) events is h =
      let r = task_runs o parties past command.party command.task events (command_values z numerals reads o words command is) h in
      record { schedule = r.schedule; asks = (Some command, is, r.asks); run = r.run }

  pub line_runs : (o : Object T) (parties : ℕ) (past : List Ev) (words : List (List ℕ)) (events : List Ev) → line_events z numerals o parties past words ≡ Ok events → LineRuns o parties past words events
  unfolding line_events
  line_runs o parties past words events h =
      let a = bind_ok (command_of numerals o words) (λ asked. events_asked z numerals o parties past asked) events h in
      asked_runs o parties past words a.0 events a.1 a.2

  -- The lines of a text are one run.

  record LinesRun (o : Object T) (parties : ℕ) (lines : List (List ℕ)) (past : List Ev) (bytes : List ℕ) : Type 0 where
    schedule : List (ℕ × Input T)
    events : List Ev
    asks : LinesAsk numerals o lines schedule events
    run : IsRun z o parties past schedule events
    bytes_are : bytes ≡ printed numerals events ++ last_line z numerals o (after events past)

  lines_run : (o : Object T) (parties number : ℕ) (lines : List (List ℕ)) (past : List Ev) (bytes : List ℕ) → output_after z numerals o parties number lines past ≡ Ok bytes → LinesRun o parties lines past bytes
  unfolding output_after
  lines_run o parties number [] past bytes h =
      record { schedule = []; events = []; asks = refl; run = tt; bytes_are = sym (same_ok {E = FaultyLine} (last_line z numerals o past) bytes h) }
  lines_run o parties number (line ∷ lines) past bytes h =
      let a = bind_in (at_line number (line_events z numerals o parties past (words_of line))) (λ events. output_after z numerals o parties (number + 1) lines (after events past) >>= λ rest. Ok (printed numerals events ++ rest)) bytes h in
      let b = bind_in (output_after z numerals o parties (number + 1) lines (after a.0 past)) (λ rest. Ok (printed numerals a.0 ++ rest)) bytes a.2 in
      let front = line_runs o parties past (words_of line) a.0 (ok_at_line number (line_events z numerals o parties past (words_of line)) a.0 a.1) in
      let back = lines_run o parties (number + 1) lines (after a.0 past) b.0 b.1 in
      let there = after_both a.0 back.events past in
      record {
        schedule = front.schedule ++ back.schedule;
        events = a.0 ++ back.events;
        asks = (front.schedule, back.schedule, a.0, back.events, refl, refl, sym (run_length z o parties past front.schedule a.0 front.run), front.asks, back.asks);
        run = run_of_both o parties past front.schedule back.schedule a.0 back.events front.run back.run;
        bytes_are = sym (same_ok {E = FaultyLine} (printed numerals a.0 ++ b.0) bytes b.2) ∙ ap (λ (l : List ℕ). printed numerals a.0 ++ l) back.bytes_are
            ∙ sym (append_assoc (printed numerals a.0) (printed numerals back.events) (last_line z numerals o (after back.events (after a.0 past))))
            ∙ ap (λ (l : List ℕ). l ++ last_line z numerals o (after back.events (after a.0 past))) (sym (flat_map-append (event_lines numerals) a.0 back.events))
            ∙ ap (λ (p : List Ev). printed numerals (a.0 ++ back.events) ++ last_line z numerals o p) (sym there);
      }

  pub outputs_are_runs : (lines : List (List ℕ)) (bytes : List ℕ) → typed_output z numerals lines ≡ Ok bytes → IsRunOfLines z numerals lines bytes
  unfolding typed_output
  outputs_are_runs [] bytes h = absurd cc
  outputs_are_runs (line ∷ lines) bytes h =
      let a = bind_in (at_line 1 (header_of numerals (words_of line))) (λ header. output_after z numerals header.object header.parties 2 lines []) bytes h in
      let r = lines_run a.0.object a.0.parties 2 lines [] bytes a.2 in
      record {
        first = line;
        others = lines;
        lines_are = refl;
        header = a.0;
        names = ok_at_line 1 (header_of numerals (words_of line)) a.0 a.1;
        schedule = r.schedule;
        events = r.events;
        asks = r.asks;
        run = r.run;
        bytes_are = r.bytes_are;
      }
