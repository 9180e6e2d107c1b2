-- What is wrong with a text, how a step that may fail goes on, and what became of a run of the program.
use Rattle.std.specs.Prelude.{◌≡◌, ℕ, List, ◌++◌, Result, Ok, Err, codes}
use Rattle.text_lines.specs.Names.{decimal}
use Rattle.model_events.specs.declared.event.StepFault.{StepFault}
use Rattle.text_lines.specs.declared.fault.FaultyLine.{FaultyLine}
use Rattle.text_lines.specs.declared.fault.LineFault.{LineFault}
use Rattle.text_lines.specs.declared.fault.RunFault.{RunFault}
use Rattle.text_lines.specs.declared.fault.TextFault.{TextFault}

infixl 10 ◌>>=◌
-- the next step, unless there was a fault
abbrev pub ◌>>=◌ : {A B E : Type 0} → Result A E → (A → Result B E) → Result B E
(Ok x) >>= f = f x
(Err e) >>= f = Err e

-- a fault, with the number of the line that has it
abbrev pub at_line : {A : Type 0} → ℕ → Result A LineFault → Result A FaultyLine
at_line line (Ok x) = Ok x
at_line line (Err fault) = Err (record { line = line; fault = fault })

-- What a machine refuses, as a fault of the line. A call that the object does not have is an unknown word.
abbrev pub line_fault_of : StepFault → LineFault
line_fault_of StepFault.NoParty = LineFault.NoParty
line_fault_of StepFault.Busy = LineFault.Busy
line_fault_of StepFault.OtherObject = LineFault.BadLine
line_fault_of StepFault.Holding = LineFault.Holding
line_fault_of StepFault.NoHold = LineFault.NoHold
line_fault_of StepFault.Idle = LineFault.Idle
line_fault_of StepFault.WaitingForAnswer = LineFault.Waiting
line_fault_of StepFault.NotWaiting = LineFault.NotWaiting

abbrev pub fault_words : LineFault → List ℕ
fault_words LineFault.NoObject = codes "no object"
fault_words LineFault.BadLine = codes "bad line"
fault_words LineFault.BadNumber = codes "bad number"
fault_words LineFault.NoParty = codes "no party"
fault_words LineFault.Busy = codes "busy"
fault_words LineFault.Holding = codes "holding"
fault_words LineFault.NoHold = codes "no hold"
fault_words LineFault.Idle = codes "idle"
fault_words LineFault.Waiting = codes "waiting"
fault_words LineFault.NotWaiting = codes "not waiting"
fault_words LineFault.StepLimit = codes "step limit"

-- a text's fault is the one that its meaning has; want of memory says nothing of the text
abbrev pub IsFaultOf : {A : Type 0} → TextFault → Result A FaultyLine → Type 0
IsFaultOf (TextFault.Line line fault) meant = meant ≡ Err (record { line = line; fault = fault })
IsFaultOf TextFault.Memory meant = Unit {0}

abbrev pub run_fault_of : TextFault → RunFault
run_fault_of (TextFault.Line line fault) = RunFault.Text line fault
run_fault_of TextFault.Memory = RunFault.Memory

-- what the fault prints
abbrev pub run_fault_words : RunFault → List ℕ
run_fault_words (RunFault.Text line fault) = codes "line " ++ (decimal line ++ (codes ": " ++ fault_words fault))
run_fault_words RunFault.Read = codes "reading failed"
run_fault_words RunFault.Write = codes "writing failed"
run_fault_words RunFault.Memory = codes "no memory"

-- the exit status of the program
abbrev pub status_of : RunFault → ℕ
status_of (RunFault.Text line fault) = 2
status_of other = 1
