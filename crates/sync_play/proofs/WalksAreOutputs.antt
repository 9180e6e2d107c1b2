-- What a text prints is what its walk prints.
use Rattle.sync_play.proofs.Names.{arith, nat_tests, eqb-true, eqb-false, ◌≡◌, ℕ, zero, suc, ◌+◌, Bool, true, false, cond, List, [], ◌∷◌, ◌++◌, Option, Some, None, Result, Ok, Err, refl, ap, ◌∙◌, append_assoc, Event, Input, Object, after, goes_on, Arithmetic, Command, Task, LineFault, Header, command_of, ◌>>=◌, at_line, header_of, words_of, FaultyLine, Numerals, event_of, events_of, run_of, steps_of, task_events, printed, event_lines, events_asked, line_events, output_after, typed_output, output_in, output_opened, Walk, step_then, event_then, go_walk, run_walk, task_walk, or_nothing, line_walk, lines_walk, opened, opened_by}

abbrev Out : Type 0
Out = Result (List ℕ) FaultyLine

-- these bytes, and then the others
abbrev onto : List ℕ → Out → Out
onto bytes rest = rest >>= λ more. Ok (bytes ++ more)

onto_none : (rest : Out) → onto [] rest ≡ rest
onto_none rest = grind (arith, nat_tests, eqb-true, eqb-false)

module _ {T : Type 0} (z : Arithmetic T) (numerals : Numerals T) where
  abbrev Ev : Type 0
  Ev = Event T

  -- what these events print, and then what is left after them
  abbrev followed : ℕ → List Ev → Result (List Ev) LineFault → (List Ev → Out) → Out
  followed number past events rest = at_line number events >>= λ es. onto (printed numerals es) (rest (after es past))

  followed_more : (number : ℕ) (past : List Ev) (e : Ev) (events : Result (List Ev) LineFault) (rest : List Ev → Out) →
      followed number past (events >>= λ es. Ok (e ∷ es)) rest ≡ onto (event_lines numerals e) (followed number (e ∷ past) events rest)
  followed_more number past e events rest = grind (arith, nat_tests, eqb-true, eqb-false, append_assoc)

  -- a step prints what its event prints
  step_prints : (o : Object T) (past : List Ev) (number : ℕ) (e : Ev) (walk : Walk T) → onto (event_lines numerals e) (output_in z numerals o (e ∷ past) walk) ≡ output_in z numerals o past (step_then (record { line = number; event = e }) walk)
  step_prints o past number e walk = grind (arith, nat_tests, eqb-true, eqb-false, append_assoc)

  -- what is left prints what its walk prints
  abbrev Prints : Object T → (List Ev → Out) → (List Ev → Walk T) → Type 0
  Prints o rest others = (there : List Ev) → rest there ≡ output_in z numerals o there (others there)

  -- an event of a line, and what is left
  event_prints : (o : Object T) (past : List Ev) (number : ℕ) (event : Result Ev LineFault) (events : Ev → Result (List Ev) LineFault) (rest : List Ev → Out) (walk : Ev → Walk T) →
      ((e : Ev) → followed number (e ∷ past) (events e) rest ≡ output_in z numerals o (e ∷ past) (walk e)) →
      followed number past (event >>= λ e. events e >>= λ es. Ok (e ∷ es)) rest ≡ output_in z numerals o past (event_then number event walk)
  event_prints o past number (Ok e) events rest walk prints =
      followed_more number past e (events e) rest ∙ ap (onto (event_lines numerals e)) (prints e) ∙ step_prints o past number e (walk e)
  event_prints o past number (Err fault) events rest walk prints = refl

  go_prints : (o : Object T) (parties : ℕ) (past : List Ev) (number n party : ℕ) (rest : List Ev → Out) (others : List Ev → Walk T) → Prints o rest others →
      followed number past (events_of z o parties past (steps_of n party)) rest ≡ output_in z numerals o past (go_walk z o parties number n past party others)
  unfolding events_of steps_of go_walk
  go_prints o parties past number zero party rest others prints = onto_none (rest past) ∙ prints past
  go_prints o parties past number (suc n) party rest others prints =
      event_prints o past number (event_of z o parties past party Input.Go) (λ e. events_of z o parties (e ∷ past) (steps_of n party)) rest (λ e. go_walk z o parties number n (e ∷ past) party others)
      (λ e. go_prints o parties (e ∷ past) number n party rest others prints)

  -- a run ends, or goes on
  abbrev events_if : Bool → Result (List Ev) LineFault → Result (List Ev) LineFault
  events_if b events = cond b events (Ok [])

  run_event : (o : Object T) (parties : ℕ) (past : List Ev) (n party : ℕ) (event : Result Ev LineFault) →
      (event >>= λ e. cond (goes_on e.then) (run_of z o parties n (e ∷ past) party >>= λ es. Ok (e ∷ es)) (Ok (e ∷ [])))
      ≡ (event >>= λ e. events_if (goes_on e.then) (run_of z o parties n (e ∷ past) party) >>= λ es. Ok (e ∷ es))
  run_event o parties past n party event = grind (arith, nat_tests, eqb-true, eqb-false)

  run_prints : (o : Object T) (parties : ℕ) (past : List Ev) (number n party : ℕ) (rest : List Ev → Out) (others : List Ev → Walk T) → Prints o rest others →
      followed number past (run_of z o parties n past party) rest ≡ output_in z numerals o past (run_walk z o parties number n past party others)
  unfolding run_of run_walk
  run_prints o parties past number zero party rest others prints = refl
  run_prints o parties past number (suc n) party rest others prints =
      ap (λ (r : Result (List Ev) LineFault). followed number past r rest) (run_event o parties past n party (event_of z o parties past party Input.Go))
      ∙ event_prints o past number (event_of z o parties past party Input.Go) (λ e. events_if (goes_on e.then) (run_of z o parties n (e ∷ past) party)) rest
      (λ e. cond (goes_on e.then) (run_walk z o parties number n (e ∷ past) party others) (others (e ∷ past))) (λ e. by_test e (run_prints o parties (e ∷ past) number n party rest others prints) (goes_on e.then))
    where
      by_test :
          (e : Ev) → followed number (e ∷ past) (run_of z o parties n (e ∷ past) party) rest ≡ output_in z numerals o (e ∷ past) (run_walk z o parties number n (e ∷ past) party others) →
          (b : Bool) → followed number (e ∷ past) (events_if b (run_of z o parties n (e ∷ past) party)) rest ≡ output_in z numerals o (e ∷ past) (cond b (run_walk z o parties number n (e ∷ past) party others) (others (e ∷ past)))
      by_test e goes true = goes
      by_test e goes false = onto_none (rest (e ∷ past)) ∙ prints (e ∷ past)

  task_prints : (o : Object T) (parties : ℕ) (past : List Ev) (number party : ℕ) (task : Task T) (rest : List Ev → Out) (others : List Ev → Walk T) → Prints o rest others →
      followed number past (task_events z o parties past party task) rest ≡ output_in z numerals o past (task_walk z o parties number past party task others)
  unfolding events_of
  task_prints o parties past number party (Task.Give input) rest others prints =
      event_prints o past number (event_of z o parties past party input) (λ e. Ok []) rest (λ e. others (e ∷ past)) (λ e. onto_none (rest (e ∷ past)) ∙ prints (e ∷ past))
  task_prints o parties past number party (Task.Go n) rest others prints = go_prints o parties past number n party rest others prints
  task_prints o parties past number party (Task.Run n) rest others prints = run_prints o parties past number n party rest others prints

  asked_prints : (o : Object T) (parties : ℕ) (past : List Ev) (number : ℕ) (command : Result (Option (Command T)) LineFault) (rest : List Ev → Out) (others : List Ev → Walk T) → Prints o rest others →
      followed number past (command >>= λ asked. events_asked z numerals o parties past asked) rest ≡ output_in z numerals o past (line_walk z o parties number past (command >>= λ c. Ok (or_nothing c)) others)
  unfolding go_walk
  asked_prints o parties past number (Ok None) rest others prints = onto_none (rest past) ∙ prints past
  asked_prints o parties past number (Ok (Some command)) rest others prints = task_prints o parties past number command.party command.task rest others prints
  asked_prints o parties past number (Err fault) rest others prints = refl

  lines_print : (o : Object T) (parties number : ℕ) (lines : List (List ℕ)) (past : List Ev) → output_after z numerals o parties number lines past ≡ output_in z numerals o past (lines_walk z numerals o parties number lines past)
  unfolding output_after line_events lines_walk
  lines_print o parties number [] past = refl
  lines_print o parties number (line ∷ lines) past =
      asked_prints o parties past number (command_of numerals o (words_of line)) (λ there. output_after z numerals o parties (number + 1) lines there) (λ there. lines_walk z numerals o parties (number + 1) lines there)
      (λ there. lines_print o parties (number + 1) lines there)

  opened_prints : (header : Result (Header T) LineFault) (lines : List (List ℕ)) →
      (at_line 1 header >>= λ h. output_after z numerals h.object h.parties 2 lines []) ≡ output_opened z numerals (opened_by header lines)
  opened_prints (Ok header) lines = lines_print header.object header.parties 2 lines []
  opened_prints (Err fault) lines = refl

  pub walks_print : (lines : List (List ℕ)) → typed_output z numerals lines ≡ output_opened z numerals (opened numerals lines)
  unfolding typed_output
  walks_print [] = refl
  walks_print (line ∷ lines) = opened_prints (header_of numerals (words_of line)) lines
