-- Of equal events in a row that leave all as it is, each reads as the first.
use Rattle.text_trace.proofs.Names.{arith, nat_tests, eqb-true, eqb-false, ◌≡◌, ℕ, ◌+◌, true, cond, List, [], ◌∷◌, Option, ap, decimal, Act, Event, Object, word_in, text_at, Word, HoldKind, Arithmetic, PendingCall, Hold, word_after, is_release, hold_taken, with_hold, without, is_quiet, Header, Step, Numerals, Texts, act_words, standing_words, words_text, or_dash, cells_at}
use Rattle.model_events.specs.Tables.{Table}

module _ {T : Type 0} where
  -- Holds.

  -- the holds after an act
  abbrev held_after : {P : Type 0} → Table T P → ℕ → Act T → Option (PendingCall T) → List Hold → List Hold
  held_after t party act pending holds = cond (is_release act) (without party holds) (with_hold party (hold_taken t act pending) holds)

  pub act_holds : {P : Type 0} (t : Table T P) (party : ℕ) (act : Act T) (pending : Option (PendingCall T)) (holds : List Hold) → is_quiet act ≡ true → held_after t party act pending holds ≡ holds
  act_holds t party act pending holds h1 = grind (arith, nat_tests, eqb-true, eqb-false)

  -- Words: what an act puts is there.

  word_again : (word : Word) (act : Act T) (value : ℕ) → word_after word act (word_after word act value) ≡ word_after word act value
  word_again word act value = grind (arith, nat_tests, eqb-true, eqb-false)

module _ {T : Type 0} (z : Arithmetic T) (numerals : Numerals T) where
  abbrev Ev : Type 0
  Ev = Event T

  -- The cells.

  -- by what of the past they tell
  abbrev telling : Header T → Step T → Option HoldKind → (Word → ℕ) → List ℕ → Texts T
  telling header step hold memory held =
      record {
        step = step;
        object = 0;
        hold = hold;
        line = decimal step.line;
        party = decimal (step.event.party + 1);
        act = act_words numerals step.event.act;
        words = words_text z numerals header.object memory ∷ [];
        holds = or_dash held;
        call = standing_words numerals step.event.act step.event.then;
      }

  -- one more of the step
  pub cells_again : (header : Header T) (step : Step T) (past : List Ev) → is_quiet step.event.act ≡ true → cells_at z numerals header (step.event ∷ step.event ∷ past) step ≡ cells_at z numerals header (step.event ∷ past) step
  cells_again header step past h1 = grind (arith, nat_tests, eqb-true, eqb-false, word_again, act_holds)

  -- of one object's words
  pub words_again : (o : Object T) (e : Event T) (past : List Ev) → is_quiet e.act ≡ true → words_text z numerals o (word_in z o (e ∷ e ∷ past)) ≡ words_text z numerals o (word_in z o (e ∷ past))
  words_again o e past quiet = ap (λ (t : Texts T). text_at t.words 0) (cells_again (record { object = o; parties = 0 }) (record { line = 0; event = e }) past quiet)
