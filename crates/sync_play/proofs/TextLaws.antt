-- What a line asks, and what the lines of a text print.
use Rattle.sync_play.proofs.Names.{◌≡◌, ℕ, ◌+◌, List, [], ◌∷◌, ◌++◌, Some, None, Result, Ok, Err, refl, Event, Object, after, Arithmetic, Command, FaultyLine, LineFault, Header, command_of, ◌>>=◌, at_line, header_of, words_of, Numerals, command_events, printed, last_line, line_events, output_after, typed_output}

pub after_both : {E : Type 0} (events more past : List E) → after (events ++ more) past ≡ after more (after events past)
after_both [] more past = refl
after_both (e ∷ events) more past = after_both events more (e ∷ past)

abbrev with_text : List ℕ → Result (List ℕ) FaultyLine → Result (List ℕ) FaultyLine
with_text bytes rest = rest >>= λ more. Ok (bytes ++ more)

module _ {T : Type 0} (z : Arithmetic T) (numerals : Numerals T) where
  abbrev Ev : Type 0
  Ev = Event T

  -- A line.

  pub asks_none : (o : Object T) (parties : ℕ) (past : List Ev) (ws : List (List ℕ)) → Ok None ≡ command_of numerals o ws → line_events z numerals o parties past ws ≡ Ok []
  unfolding line_events
  asks_none o parties past ws e = rw (← e) refl

  pub asks_command : (o : Object T) (parties : ℕ) (past : List Ev) (ws : List (List ℕ)) (command : Command T) → Ok (Some command) ≡ command_of numerals o ws → line_events z numerals o parties past ws ≡ command_events z o parties past command
  unfolding line_events
  asks_command o parties past ws command e = rw (← e) refl

  pub asks_wrongly : (o : Object T) (parties : ℕ) (past : List Ev) (ws : List (List ℕ)) (fault : LineFault) → Err fault ≡ command_of numerals o ws → line_events z numerals o parties past ws ≡ Err fault
  unfolding line_events
  asks_wrongly o parties past ws fault e = rw (← e) refl

  -- The lines of a text.

  pub line_then : (o : Object T) (parties number : ℕ) (line : List ℕ) (rest : List (List ℕ)) (past : List Ev) (events : List Ev) → at_line number (line_events z numerals o parties past (words_of line)) ≡ Ok events
      → output_after z numerals o parties number (line ∷ rest) past ≡ with_text (printed numerals events) (output_after z numerals o parties (number + 1) rest (after events past))
  unfolding output_after
  line_then o parties number line rest past events e = rw e refl

  pub line_fails : (o : Object T) (parties number : ℕ) (line : List ℕ) (rest : List (List ℕ)) (past : List Ev) (fault : FaultyLine) → at_line number (line_events z numerals o parties past (words_of line)) ≡ Err fault
      → output_after z numerals o parties number (line ∷ rest) past ≡ Err fault
  unfolding output_after
  line_fails o parties number line rest past fault e = rw e refl

  pub lines_end : (o : Object T) (parties number : ℕ) (past : List Ev) → output_after z numerals o parties number [] past ≡ Ok (last_line z numerals o past)
  unfolding output_after
  lines_end o parties number past = refl

  -- The first line.

  pub text_is_empty : (lines : List (List ℕ)) → lines ≡ [] → typed_output z numerals lines ≡ Err (record { line = 1; fault = LineFault.NoObject })
  unfolding typed_output
  text_is_empty lines none = rw none refl

  pub header_fails : (lines : List (List ℕ)) (line : List ℕ) (others : List (List ℕ)) (fault : LineFault) → lines ≡ line ∷ others → Err fault ≡ header_of numerals (words_of line) → typed_output z numerals lines ≡ Err (record { line = 1; fault = fault })
  unfolding typed_output
  header_fails lines line others fault same e = rw (same, ← e) refl

  pub header_is : (lines : List (List ℕ)) (line : List ℕ) (others : List (List ℕ)) (header : Header T) → lines ≡ line ∷ others → Ok header ≡ header_of numerals (words_of line) → typed_output z numerals lines ≡ output_after z numerals header.object header.parties 2 others []
  unfolding typed_output
  header_is lines line others header same e = rw (same, ← e) refl
