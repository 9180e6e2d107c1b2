-- What a text of several objects prints, or the fault of its first faulty line.
use Rattle.std.specs.Prelude.{◌≡◌, ℕ, suc, ◌+◌, List, [], ◌∷◌, ◌++◌, map, Bool, false, if◌then◌else◌, None, Result, Ok, Err, codes}
use Rattle.text_room.specs.Names.{Arithmetic, after, Object, ◌>>=◌, lines_of, words_of, Numerals, is_several, values_in, IsFaultOf, FaultyLine, TextFault, RoomEvent, Seating, StandsAt, events_of, all_of, printed, last_line, output_unless}
use Rattle.sync_play.specs.Text as texts
use Rattle.text_room.specs.declared.walk.Step.{Step}
use Rattle.text_room.specs.Walk.{Walk, opened, lines_walk}

abbrev pub events_in : {T : Type 0} → List (Step T) → List (RoomEvent T)
events_in steps = map (λ step. step.event) steps

module _ {T : Type 0} (z : Arithmetic T) (numerals : Numerals T) where
  -- the last line of each object, from object k on, behind its name
  abbrev pub last_lines : ℕ → List (List ℕ) → List (Object T) → List (RoomEvent T) → List ℕ
  last_lines k [] objects past = []
  last_lines k (name ∷ names) [] past = []
  last_lines k (name ∷ names) (o ∷ objects) past = name ++ (codes " " ++ (last_line z numerals o (events_of k past) ++ last_lines (suc k) names objects past))

  -- what the events of a walk print after the events so far, and the last lines; or its fault
  abbrev pub output_in : List (List ℕ) → List (Object T) → List (RoomEvent T) → Walk T → Result (List ℕ) FaultyLine
  output_in names objects past walk =
      output_unless walk.fault (printed numerals (all_of (events_in walk.steps)) ++ last_lines 0 names objects (after (events_in walk.steps) past))

  abbrev pub room_output : List (List ℕ) → Result (List ℕ) FaultyLine
  room_output lines = opened numerals lines >>= λ found. output_in found.names found.objects [] (lines_walk z numerals found.names found.objects found.parties (found.line + 1) found.lines [])

  -- What playing a walk has come to.

  -- all its events were played and printed
  pub record PrintsAll (objects : List (Object T)) (parties : ℕ) (past : List (RoomEvent T)) (walk : Walk T) (old new : List ℕ) (room : Seating T) : Type 0 where
    pub faultless : walk.fault ≡ None
    pub output : new ≡ old ++ printed numerals (all_of (events_in walk.steps))
    pub stands : StandsAt z objects parties (after (events_in walk.steps) past) room

  -- it has done so, or tells its fault, or memory ran out
  abbrev pub IsPrinted : List (List ℕ) → List (Object T) → ℕ → List (RoomEvent T) → Walk T → List ℕ → List ℕ → Seating T → Result (Unit {0}) TextFault → Type 0
  IsPrinted names objects parties past walk old new room (Ok u) = PrintsAll objects parties past walk old new room
  IsPrinted names objects parties past walk old new room (Err fault) = IsFaultOf fault (output_in names objects past walk)

-- it is one of several objects
abbrev pub begins_several : List (List ℕ) → Bool
begins_several [] = false
begins_several (first ∷ lines) = is_several (words_of first)

-- any text, of one object or of several
abbrev pub output_of : List ℕ → Result (List ℕ) FaultyLine
output_of text = if begins_several (lines_of text) then room_output (values_in text).arithmetic (values_in text).numerals (lines_of text) else texts.output_of text
