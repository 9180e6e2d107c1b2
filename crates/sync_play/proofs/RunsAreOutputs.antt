-- What a run of a text's inputs prints is the text's output.
use Rattle.sync_play.proofs.Names.{nat_tests, eqb-true, eqb-false, ◌≡◌, ℕ, zero, suc, ◌+◌, ◌≤◌, List, [], ◌∷◌, ◌++◌, length, Option, Some, None, Ok, refl, sym, ap, subst, ◌∙◌, append_assoc, arith, flat_map-append, Event, Input, Object, Arithmetic, after, IsRun, Command, Task, command_of, at_line, words_of, Numerals, events_of, run_of, steps_of, task_events, line_events, output_after, typed_output, printed, event_lines, last_line, EndsFirstAtLast, AreInputsOf, CommandAsks, LineAsks, LinesAsk, IsRunOfLines}
use Rattle.sync_play.proofs.PlayerLaws.{event_is, run_is}
use Rattle.sync_play.proofs.TextLaws.{after_both, asks_none, asks_command, line_then, lines_end, header_is}

module _ {T : Type 0} (z : Arithmetic T) (numerals : Numerals T) where
  abbrev Ev : Type 0
  Ev = Event T

  -- a run of two schedules, cut where the events of the first end
  pub record CutRun (o : Object T) (parties : ℕ) (past : List Ev) (first others : List (ℕ × Input T)) (front back : List Ev) : Type 0 where
    pub first_run : IsRun z o parties past first front
    pub others_run : IsRun z o parties (after front past) others back

  pub cut_run : (o : Object T) (parties : ℕ) (past : List Ev) (first others : List (ℕ × Input T)) (front back : List Ev) → length front ≡ length first
      → IsRun z o parties past (first ++ others) (front ++ back) → CutRun o parties past first others front back
  cut_run o parties past [] others [] back same run = record { first_run = tt; others_run = run }
  cut_run o parties past [] others (e ∷ front) back same run = absurd (omega arith)
  cut_run o parties past (turn ∷ first) others [] back same run = absurd (omega arith)
  cut_run o parties past (turn ∷ first) others (e ∷ front) back same run =
      let cut = cut_run o parties (e ∷ past) first others front back (omega arith) run.1 in
      record { first_run = (run.0, cut.first_run); others_run = cut.others_run }

  -- A line.

  pub no_inputs : (o : Object T) (parties : ℕ) (past : List Ev) (schedule : List (ℕ × Input T)) (events : List Ev) → schedule ≡ [] → IsRun z o parties past schedule events → events ≡ []
  no_inputs o parties past schedule events h1 h2 = grind (arith, nat_tests, eqb-true, eqb-false)

  given : (o : Object T) (parties : ℕ) (past : List Ev) (schedule inputs : List (ℕ × Input T)) (events : List Ev) → schedule ≡ inputs → IsRun z o parties past schedule events → events_of z o parties past inputs ≡ Ok events
  given o parties past schedule inputs events same run = run_is z o parties past inputs events (subst (λ (l : List (ℕ × Input T)). IsRun z o parties past l events) same run)

  ends_at : (o : Object T) (parties : ℕ) (past : List Ev) (party steps limit : ℕ) (events : List Ev) → steps ≤ limit → EndsFirstAtLast events → IsRun z o parties past (steps_of steps party) events
      → run_of z o parties limit past party ≡ Ok events
  unfolding run_of steps_of
  ends_at o parties past party steps limit [] within last run = absurd last
  ends_at o parties past party zero limit (e ∷ events) within last run = absurd run
  ends_at o parties past party (suc steps) zero (e ∷ events) within last run = absurd (omega arith)
  ends_at o parties past party (suc steps) (suc limit) (e ∷ []) within last run = rw (event_is z o parties past party Input.Go e run.0, last) refl
  ends_at o parties past party (suc steps) (suc limit) (e ∷ next ∷ events) within last run =
      rw (event_is z o parties past party Input.Go e run.0, last.0, ends_at o parties (e ∷ past) party steps limit (next ∷ events) (omega arith) last.1 run.1) refl

  ran_to_end : (o : Object T) (parties : ℕ) (past : List Ev) (party steps limit : ℕ) (schedule : List (ℕ × Input T)) (events : List Ev) → steps ≤ limit → schedule ≡ steps_of steps party → EndsFirstAtLast events
      → IsRun z o parties past schedule events → run_of z o parties limit past party ≡ Ok events
  ran_to_end o parties past party steps limit schedule events within same last run =
      ends_at o parties past party steps limit events within last (subst (λ (l : List (ℕ × Input T)). IsRun z o parties past l events) same run)

  task_is : (o : Object T) (parties : ℕ) (past : List Ev) (party : ℕ) (task : Task T) (schedule : List (ℕ × Input T)) (events : List Ev) → AreInputsOf party task schedule events
      → IsRun z o parties past schedule events → task_events z o parties past party task ≡ Ok events
  task_is o parties past party (Task.Give input) schedule events asks run = given o parties past schedule ((party, input) ∷ []) events asks run
  task_is o parties past party (Task.Go n) schedule events asks run = given o parties past schedule (steps_of n party) events asks run
  task_is o parties past party (Task.Run limit) schedule events asks run = ran_to_end o parties past party asks.0 limit schedule events asks.1 asks.2 asks.3 run

  asked_is : (o : Object T) (parties : ℕ) (past : List Ev) (words : List (List ℕ)) (asked : Option (Command T)) (schedule : List (ℕ × Input T)) (events : List Ev) → command_of numerals o words ≡ Ok asked → CommandAsks asked schedule events
      → IsRun z o parties past schedule events → line_events z numerals o parties past words ≡ Ok events
  asked_is o parties past words None schedule events is asks run = asks_none z numerals o parties past words (sym is) ∙ ap (λ (es : List Ev). Ok es) (sym (no_inputs o parties past schedule events asks run))
  asked_is o parties past words (Some command) schedule events is asks run =
      asks_command z numerals o parties past words command (sym is) ∙ task_is o parties past command.party command.task schedule events asks run

  pub line_is : (o : Object T) (parties : ℕ) (past : List Ev) (words : List (List ℕ)) (schedule : List (ℕ × Input T)) (events : List Ev) → LineAsks numerals o words schedule events
      → IsRun z o parties past schedule events → line_events z numerals o parties past words ≡ Ok events
  line_is o parties past words schedule events asks run = asked_is o parties past words asks.0 schedule events asks.1 asks.2 run

  -- The lines of a text.

  lines_are : (o : Object T) (parties number : ℕ) (lines : List (List ℕ)) (past : List Ev) (schedule : List (ℕ × Input T)) (events : List Ev) → LinesAsk numerals o lines schedule events
      → IsRun z o parties past schedule events → output_after z numerals o parties number lines past ≡ Ok (printed numerals events ++ last_line z numerals o (after events past))
  lines_are o parties number [] past schedule events asks run =
      let none = no_inputs o parties past schedule events asks run in
      lines_end z numerals o parties number past ∙ rw none refl
  lines_are o parties number (line ∷ lines) past schedule events asks run =
      let front = asks.2 in
      let back = asks.3 in
      let here = subst (λ (es : List Ev). IsRun z o parties past schedule es) asks.5 run in
      let cut = cut_run o parties past asks.0 asks.1 front back asks.6 (subst (λ (l : List (ℕ × Input T)). IsRun z o parties past l (front ++ back)) asks.4 here) in
      let rest = lines_are o parties (number + 1) lines (after front past) asks.1 back asks.8 cut.others_run in
      line_then z numerals o parties number line lines past front (ap (at_line number) (line_is o parties past (words_of line) asks.0 front asks.7 cut.first_run))
      ∙ rw (rest, asks.5) (ap (λ (l : List ℕ). Ok l) (
      sym (append_assoc (printed numerals front) (printed numerals back) (last_line z numerals o (after back (after front past))))
      ∙ ap (λ (l : List ℕ). l ++ last_line z numerals o (after back (after front past))) (sym (flat_map-append (event_lines numerals) front back)) ∙ ap (λ (p : List Ev). printed numerals (front ++ back) ++ last_line z numerals o p) (sym (after_both front back past))))

  pub runs_are_outputs : (lines : List (List ℕ)) (bytes : List ℕ) → IsRunOfLines z numerals lines bytes → typed_output z numerals lines ≡ Ok bytes
  runs_are_outputs lines bytes r =
      header_is z numerals lines r.first r.others r.header r.lines_are (sym r.names)
      ∙ lines_are r.header.object r.header.parties 2 r.others [] r.schedule r.events r.asks r.run ∙ ap (λ (l : List ℕ). Ok l) (sym r.bytes_are)
