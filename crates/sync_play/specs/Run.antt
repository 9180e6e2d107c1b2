-- What became of a run of a program that plays texts, by what a text prints.
use Rattle.std.specs.Prelude.{◌≡◌, ℕ, List, take, Option, Result, Ok, Err}
use Rattle.sync_play.specs.Names.{Appends, Consumes, IsAtEnd, FaultyLine}
use Rattle.text_lines.specs.declared.fault.RunFault.{RunFault}

-- the text was read to its end
pub record HasRead (old new : Option (List ℕ)) (text : List ℕ) : Type 0 where
  pub took : Consumes old new text
  pub at_end : IsAtEnd new

module _ (output_of : List ℕ → Result (List ℕ) FaultyLine) where
  -- all that was read is a text with an output, and that was written and nothing else
  pub record HasPlayed (left left' written written' : Option (List ℕ)) : Type 0 where
    pub text : List ℕ
    pub read : HasRead left left' text
    pub bytes : List ℕ
    pub output : output_of text ≡ Ok bytes
    pub wrote : Appends written written' bytes

  -- all that was read is a text with an output, and a beginning of that was written
  pub record HasBegun (left left' written written' : Option (List ℕ)) : Type 0 where
    pub text : List ℕ
    pub read : HasRead left left' text
    pub bytes : List ℕ
    pub output : output_of text ≡ Ok bytes
    pub count : ℕ
    pub wrote : Appends written written' (take count bytes)

  -- all that was read is a text with this fault
  pub record HasFault (left left' : Option (List ℕ)) (fault : FaultyLine) : Type 0 where
    pub text : List ℕ
    pub read : HasRead left left' text
    pub output : output_of text ≡ Err fault

  -- a fault of the text is the one that its meaning has
  abbrev pub TellsFault : RunFault → Option (List ℕ) → Option (List ℕ) → Type 0
  TellsFault (RunFault.Text line fault) left left' = HasFault left left' (record { line = line; fault = fault })
  TellsFault other left left' = Unit {0}

-- reading ends early for these alone
abbrev pub EndsReading : RunFault → Type 0
EndsReading RunFault.Read = Unit {0}
EndsReading RunFault.Memory = Unit {0}
EndsReading other = ⊥

-- a beginning of the bytes was written
abbrev pub Begins : Option (List ℕ) → Option (List ℕ) → List ℕ → Type 0
Begins written written' bytes = (count : ℕ) × Appends written written' (take count bytes)
