-- What became of a run of the program that traces.
use Rattle.std.specs.Prelude.{◌≡◌, ℕ, List, take, Option, Some}
use Rattle.text_lines.specs.declared.fault.FaultyLine.{FaultyLine}
use Rattle.std.specs.Io.KnownBytes.{Appends}
use Rattle.text_lines.specs.declared.fault.RunFault.{RunFault}
use Rattle.sync_play.specs.Run.{HasRead}
use Rattle.text_trace.specs.Whole.{trace_of}

-- all that was read is a text with this fault, or none, and its trace was written and nothing else
pub record HasTraced (left left' written written' : Option (List ℕ)) (fault : Option FaultyLine) : Type 0 where
  pub text : List ℕ
  pub read : HasRead left left' text
  pub bytes : List ℕ
  pub trace : trace_of text ≡ record { bytes = bytes; fault = fault }
  pub wrote : Appends written written' bytes

-- all that was read is a text, and a beginning of its trace was written
pub record HasBegun (left left' written written' : Option (List ℕ)) : Type 0 where
  pub text : List ℕ
  pub read : HasRead left left' text
  pub count : ℕ
  pub wrote : Appends written written' (take count (trace_of text).bytes)

-- a fault of the text is told once its trace up to it is written
abbrev pub TellsFault : RunFault → Option (List ℕ) → Option (List ℕ) → Option (List ℕ) → Option (List ℕ) → Type 0
TellsFault (RunFault.Text line fault) left left' written written' = HasTraced left left' written written' (Some (record { line = line; fault = fault }))
TellsFault other left left' written written' = Unit {0}

-- the faults that come before the first byte is written
abbrev pub IsEarly : RunFault → Type 0
IsEarly RunFault.Read = Unit {0}
IsEarly RunFault.Memory = Unit {0}
IsEarly other = ⊥
