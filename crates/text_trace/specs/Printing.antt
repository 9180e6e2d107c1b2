-- The parts in which a row is printed. What it says is stated in `Cells`, without them.
use Rattle.std.specs.Prelude.{◌≡◌, ℕ, Bool, true, false, List, [], ◌++◌, Some, None, codes, string_bytes}
use Rattle.text_trace.specs.Names.{decimal, WaitAction, Act, Wake, Step, Numerals}
use Rattle.text_trace.specs.declared.cells.Cells.{Cells}
use Rattle.text_trace.specs.Cells.{verb_words, call_words}

-- An act is printed in parts, of which some are empty.

-- what it does to which word, if it does
abbrev pub access_words : {T : Type 0} → Act T → List ℕ
access_words (Act.Load word seen) = verb_words (codes "load") word
access_words (Act.Store word put) = verb_words (codes "store") word
access_words (Act.Swap word old put) = verb_words (codes "swap") word
access_words (Act.Add word old put) = verb_words (codes "add") word
access_words (Act.Exchange word from to found done) = verb_words (codes "exchange") word
access_words act = []

-- how an exchange ended
abbrev pub outcome_words : Bool → List ℕ
outcome_words true = codes "done"
outcome_words false = codes "failed"

-- what one wanted, found and did
abbrev pub exchange_words : ℕ → ℕ → ℕ → Bool → List ℕ
exchange_words from to found done = codes " " ++ (decimal from ++ (codes " for " ++ (decimal to ++ (codes ", found " ++ (decimal found ++ (codes ", " ++ outcome_words done))))))

-- what an act told of a word, and put
abbrev pub number_words : {T : Type 0} → Act T → List ℕ
number_words (Act.Load word seen) = codes ", found " ++ decimal seen
number_words (Act.Store word put) = codes " " ++ decimal put
number_words (Act.Swap word old put) = codes " in " ++ (decimal put ++ (codes ", found " ++ decimal old))
number_words (Act.Add word old put) = codes ", found " ++ (decimal old ++ (codes ", put " ++ decimal put))
number_words (Act.Exchange word from to found done) = exchange_words from to found done
number_words act = []

-- what is said of one on no word
abbrev pub said_words : {T : Type 0} → Act T → List ℕ
said_words (Act.Woke Wake.One) = codes "wake one"
said_words (Act.Woke Wake.All) = codes "wake all"
said_words (Act.Answered WaitAction.Continue) = codes "its closure answers Continue"
said_words (Act.Answered WaitAction.Abort) = codes "its closure answers Abort"
said_words (Act.Chosen (Some v)) = codes "its closure answers some "
said_words (Act.Chosen None) = codes "its closure answers none"
said_words Act.Ended = codes "its closure ends"
said_words (Act.ReadCell v) = codes "read the cell, found "
said_words act = []

-- the call that it begins, or the value that it tells
abbrev pub told_words : {T : Type 0} → Numerals T → Act T → List ℕ
told_words numerals (Act.Begun call) = call_words numerals call
told_words numerals (Act.Chosen (Some v)) = numerals.decimal_of v
told_words numerals (Act.ReadCell v) = numerals.decimal_of v
told_words numerals act = []

-- the step and its object are there, and no text yet
pub record IsBlank {T : Type 0} (object : ℕ) (step : Step T) (cells : Cells T) : Type 0 where
  pub step_is : cells.step ≡ step
  pub object_is : cells.object ≡ object
  pub line : string_bytes cells.line ≡ []
  pub party : string_bytes cells.party ≡ []
  pub act : string_bytes cells.act ≡ []
  pub words : cells.words.items ≡ []
  pub holds : string_bytes cells.holds ≡ []
  pub call : string_bytes cells.call ≡ []
