-- What became of a run of the program.
use Rattle.std.specs.Prelude.{◌≡◌, ℕ, List, take, Option, Err}
use Rattle.std.specs.Io.KnownBytes.{Appends}
use Rattle.sync_play.specs.Run.{HasRead}
use Rattle.text_lines.specs.declared.fault.FaultyLine.{FaultyLine}
use Rattle.text_lines.specs.declared.fault.RunFault.{RunFault}
use Rattle.text_room.specs.Output.{output_of}
use Rattle.draw_text.specs.Parts.{HasText}
use Rattle.draw_text.specs.Picture.{IsPictureOf}
use Rattle.draw_story.specs.Story.{HasOutput}

-- all that was read is this text, with moves that are told behind it
pub record HasReadText (left left' : Option (List ℕ)) (text : List ℕ) : Type 0 where
  pub bytes : List ℕ
  pub read : HasRead left left' bytes
  pub has_text : HasText bytes text

-- all that was read is a text without a fault, and its picture was written and nothing else
pub record HasDrawn (left left' written written' : Option (List ℕ)) : Type 0 where
  pub text : List ℕ
  pub read : HasReadText left left' text
  pub has_output : HasOutput (output_of text)
  pub picture : List ℕ
  pub is_picture : IsPictureOf text picture
  pub wrote : Appends written written' picture

-- all that was read is a text without a fault, and a beginning of its picture was written
pub record HasBegun (left left' written written' : Option (List ℕ)) : Type 0 where
  pub text : List ℕ
  pub read : HasReadText left left' text
  pub has_output : HasOutput (output_of text)
  pub picture : List ℕ
  pub is_picture : IsPictureOf text picture
  pub count : ℕ
  pub wrote : Appends written written' (take count picture)

-- all that was read is a text with this fault
pub record HasFault (left left' : Option (List ℕ)) (fault : FaultyLine) : Type 0 where
  pub text : List ℕ
  pub read : HasReadText left left' text
  pub output : output_of text ≡ Err fault

-- a fault of the text is the one that its meaning has
abbrev pub TellsFault : RunFault → Option (List ℕ) → Option (List ℕ) → Type 0
TellsFault (RunFault.Text line fault) left left' = HasFault left left' (record { line = line; fault = fault })
TellsFault other left left' = Unit {0}
