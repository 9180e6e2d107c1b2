-- Walks and outputs: what a text prints is what its walk's events print, and both have the same fault.
use Rattle.std.specs.Prelude.{◌≡◌, ℕ, List, [], ◌++◌, map, Option, Some, None, Result, Ok, Err}
use Rattle.sync_play.specs.Names.{Event, Object, Arithmetic, after, Configuration, StandsAt, Header, TextFault, IsFaultOf, Numerals, FaultyLine}
use Rattle.sync_play.specs.Print.{printed, last_line}
use Rattle.sync_play.specs.Text.{typed_output}
use Rattle.sync_play.specs.declared.walk.Step.{Step}
use Rattle.sync_play.specs.Walk.{Walk, opened, lines_walk}

abbrev pub events_in : {T : Type 0} → List (Step T) → List (Event T)
events_in steps = map (λ step. step.event) steps

abbrev pub output_unless : Option FaultyLine → List ℕ → Result (List ℕ) FaultyLine
output_unless None bytes = Ok bytes
output_unless (Some fault) bytes = Err fault

module _ {T : Type 0} (z : Arithmetic T) (numerals : Numerals T) where
  -- what the events of a walk print after the events so far, and the last line; or its fault
  abbrev pub output_in : Object T → List (Event T) → Walk T → Result (List ℕ) FaultyLine
  output_in o past walk = output_unless walk.fault (printed numerals (events_in walk.steps) ++ last_line z numerals o (after (events_in walk.steps) past))

  abbrev pub output_opened : Result (Header T × List (List ℕ)) FaultyLine → Result (List ℕ) FaultyLine
  output_opened (Ok found) = output_in found.0.object [] (lines_walk z numerals found.0.object found.0.parties 2 found.1 [])
  output_opened (Err fault) = Err fault

  -- What playing a walk has come to.

  -- all its events were played and printed
  pub record PrintsAll (o : Object T) (parties : ℕ) (past : List (Event T)) (walk : Walk T) (old new : List ℕ) (machine : Configuration T) : Type 0 where
    pub faultless : walk.fault ≡ None
    pub output : new ≡ old ++ printed numerals (events_in walk.steps)
    pub stands : StandsAt z o parties (after (events_in walk.steps) past) machine

  -- it has done so, or tells its fault, or memory ran out
  abbrev pub IsPrinted : Object T → ℕ → List (Event T) → Walk T → List ℕ → List ℕ → Configuration T → Result (Unit {0}) TextFault → Type 0
  IsPrinted o parties past walk old new machine (Ok u) = PrintsAll o parties past walk old new machine
  IsPrinted o parties past walk old new machine (Err fault) = IsFaultOf fault (output_in o past walk)

  -- a text's output is its walk's
  abbrev pub WalksAreOutputs : Type 0
  WalksAreOutputs = (lines : List (List ℕ)) → typed_output z numerals lines ≡ output_opened (opened numerals lines)
