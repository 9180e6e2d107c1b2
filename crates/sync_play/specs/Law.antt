-- A text as a run: its inputs, line by line, and their events.
use Rattle.std.specs.Prelude.{◌≡◌, ℕ, ◌+◌, ◌≤◌, true, false, List, [], ◌∷◌, ◌++◌, length, Option, Some, None, Ok, Err, ◌⊎◌, codes}
use Rattle.sync_play.specs.Names.{Event, Input, Object, StepFault, Arithmetic, goes_on, fault_of, after, IsRun, FaultyLine, LineFault, Command, Task, Header, command_of, line_fault_of, header_of, lines_of, words_of, Numerals, values_in}
use Rattle.sync_play.specs.Player.{steps_of}
use Rattle.sync_play.specs.Print.{printed, last_line}
use Rattle.sync_play.specs.Text.{output_of}

-- the last event answered its call or stands at a closure, and none before it did
abbrev pub EndsFirstAtLast : {T : Type 0} → List (Event T) → Type 0
EndsFirstAtLast [] = ⊥
EndsFirstAtLast (e ∷ []) = goes_on e.then ≡ false
EndsFirstAtLast (e ∷ next ∷ events) = (goes_on e.then ≡ true) × EndsFirstAtLast (next ∷ events)

-- the inputs of a task of a party, where these are their events
abbrev pub AreInputsOf : {T : Type 0} → ℕ → Task T → List (ℕ × Input T) → List (Event T) → Type 0
AreInputsOf party (Task.Give input) schedule events = schedule ≡ (party, input) ∷ []
AreInputsOf party (Task.Go n) schedule events = schedule ≡ steps_of n party
AreInputsOf party (Task.Run limit) schedule events =
    (steps : ℕ) × (steps ≤ limit) × (schedule ≡ steps_of steps party) × EndsFirstAtLast events

-- a line without words has no inputs
abbrev pub CommandAsks : {T : Type 0} → Option (Command T) → List (ℕ × Input T) → List (Event T) → Type 0
CommandAsks None schedule events = schedule ≡ []
CommandAsks (Some command) schedule events = AreInputsOf command.party command.task schedule events

-- no event answered its call or stands at a closure
abbrev pub GoOn : {T : Type 0} → List (Event T) → Type 0
GoOn [] = Unit {0}
GoOn (e ∷ events) = (goes_on e.then ≡ true) × GoOn events

module _ {T : Type 0} (numerals : Numerals T) where
  abbrev pub LineAsks : Object T → List (List ℕ) → List (ℕ × Input T) → List (Event T) → Type 0
  LineAsks o words schedule events = (asked : Option (Command T)) × (command_of numerals o words ≡ Ok asked) × CommandAsks asked schedule events

  -- the inputs of all lines, in order, with as many events in each line as it has inputs
  abbrev pub LinesAsk : Object T → List (List ℕ) → List (ℕ × Input T) → List (Event T) → Type 0
  LinesAsk o [] schedule events = schedule ≡ []
  LinesAsk o (line ∷ lines) schedule events =
      (first : List (ℕ × Input T)) × (others : List (ℕ × Input T)) × (front : List (Event T)) × (back : List (Event T))
      × (schedule ≡ first ++ others) × (events ≡ front ++ back) × (length front ≡ length first) × LineAsks o (words_of line) first front × LinesAsk o lines others back

module _ {T : Type 0} (z : Arithmetic T) where
  -- Why a line is refused.

  -- a run of the inputs before it was played, and then an input is refused with this word
  pub record IsRefusedAt (o : Object T) (parties : ℕ) (past : List (Event T)) (schedule : List (ℕ × Input T)) (events : List (Event T)) (fault : LineFault) : Type 0 where
    pub before : List (ℕ × Input T)
    pub turn : ℕ × Input T
    pub others : List (ℕ × Input T)
    pub schedule_is : schedule ≡ before ++ (turn ∷ others)
    pub run : IsRun z o parties past before events
    pub refusal : StepFault
    pub refused : fault_of z o parties (after events past) turn.0 turn.1 ≡ Some refusal
    pub word : fault ≡ line_fault_of refusal

  -- a run of at most so many steps is refused: one of its steps is, or it makes them all and comes to no end
  abbrev pub RunRefused : Object T → ℕ → List (Event T) → ℕ → ℕ → LineFault → Type 0
  RunRefused o parties past party limit fault =
      ((events : List (Event T)) × GoOn events × IsRefusedAt o parties past (steps_of limit party) events fault)
      ⊎ ((events : List (Event T)) × GoOn events × IsRun z o parties past (steps_of limit party) events × (fault ≡ LineFault.StepLimit))

  -- a task of a party is refused
  abbrev pub TaskRefused : Object T → ℕ → List (Event T) → ℕ → Task T → LineFault → Type 0
  TaskRefused o parties past party (Task.Give input) fault = (events : List (Event T)) × IsRefusedAt o parties past ((party, input) ∷ []) events fault
  TaskRefused o parties past party (Task.Go n) fault = (events : List (Event T)) × IsRefusedAt o parties past (steps_of n party) events fault
  TaskRefused o parties past party (Task.Run limit) fault = RunRefused o parties past party limit fault

module _ {T : Type 0} (z : Arithmetic T) (numerals : Numerals T) where
  -- the bytes are what a run of all the text's inputs prints, and then the last line
  pub record IsRunOfLines (lines : List (List ℕ)) (bytes : List ℕ) : Type 0 where
    pub first : List ℕ
    pub others : List (List ℕ)
    pub lines_are : lines ≡ first ∷ others
    -- the object and the parties that the first line names
    pub header : Header T
    pub names : header_of numerals (words_of first) ≡ Ok header
    -- the inputs that the other lines ask, and the events of their run
    pub schedule : List (ℕ × Input T)
    pub events : List (Event T)
    pub asks : LinesAsk numerals header.object others schedule events
    pub run : IsRun z header.object header.parties [] schedule events
    pub bytes_are : bytes ≡ printed numerals events ++ last_line z numerals header.object (after events [])

  -- the words of a line ask nothing that is known, or something that is refused after the past
  abbrev pub LineRefused : Object T → ℕ → List (Event T) → List (List ℕ) → LineFault → Type 0
  LineRefused o parties past words fault =
      (command_of numerals o words ≡ Err fault)
      ⊎ ((command : Command T) × (command_of numerals o words ≡ Ok (Some command)) × TaskRefused z o parties past command.party command.task fault)

  -- the first line opens an object, the lines before line `number` form a run, and that line is refused after it
  pub record LaterLineRefused (first : List ℕ) (lines : List (List ℕ)) (number : ℕ) (fault : LineFault) : Type 0 where
    pub header : Header T
    pub names : header_of numerals (words_of first) ≡ Ok header
    pub before : List (List ℕ)
    pub line : List ℕ
    pub others : List (List ℕ)
    pub lines_are : lines ≡ before ++ (line ∷ others)
    pub number_is : number ≡ length before + 2
    pub schedule : List (ℕ × Input T)
    pub events : List (Event T)
    pub asks : LinesAsk numerals header.object before schedule events
    pub run : IsRun z header.object header.parties [] schedule events
    pub refused : LineRefused header.object header.parties (after events []) (words_of line) fault

  -- line `number` is the first that is refused, and with this word; a text without lines names no object
  abbrev pub IsRefusedLine : List (List ℕ) → ℕ → LineFault → Type 0
  IsRefusedLine [] number fault = (number ≡ 1) × (fault ≡ LineFault.NoObject)
  IsRefusedLine (first ∷ lines) number fault = ((number ≡ 1) × (header_of numerals (words_of first) ≡ Err fault)) ⊎ LaterLineRefused first lines number fault

-- The laws: what a text prints, and why it is refused, are relations of its lines alone.

-- a text has this output where it is that of a run, and nowhere else
abbrev pub IsRunOfText : List ℕ → List ℕ → Type 0
IsRunOfText text bytes = IsRunOfLines (values_in text).arithmetic (values_in text).numerals (lines_of text) bytes

abbrev pub IsRefusal : List ℕ → FaultyLine → Type 0
IsRefusal text fault = IsRefusedLine (values_in text).arithmetic (values_in text).numerals (lines_of text) fault.line fault.fault

abbrev pub OutputsAreRuns : Type 0
OutputsAreRuns = (text bytes : List ℕ) → output_of text ≡ Ok bytes → IsRunOfText text bytes

abbrev pub RunsAreOutputs : Type 0
RunsAreOutputs = (text bytes : List ℕ) → IsRunOfText text bytes → output_of text ≡ Ok bytes

-- a text has this fault where its line is refused so, and nowhere else
abbrev pub FaultsAreRefusals : Type 0
FaultsAreRefusals = (text : List ℕ) (fault : FaultyLine) → output_of text ≡ Err fault → IsRefusal text fault

abbrev pub RefusalsAreFaults : Type 0
RefusalsAreFaults = (text : List ℕ) (fault : FaultyLine) → IsRefusal text fault → output_of text ≡ Err fault

-- a `run` ends in its own line: it borrows no end from a later one
abbrev pub EndsInItsLine : Type 0
EndsInItsLine = IsRunOfText (codes "mutex 2\n1 try_lock\n1 go\n1 unlock\n1 run\n2 lock\n2 go\n") (codes "1 success\n2 success\nword 1 failed 0\n") → ⊥
