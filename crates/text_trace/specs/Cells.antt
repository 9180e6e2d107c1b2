-- What a step's row says, cell by cell.
use Rattle.std.specs.Prelude.{ℕ, zero, suc, ◌+◌, true, false, List, [], ◌∷◌, ◌++◌, map, Option, Some, None, codes, string_bytes}
use Rattle.text_trace.specs.Names.{decimal, WaitAction, Act, Event, Object, Wake, Word, HoldKind, Arithmetic, hold_of, table_of, word_in, Header, Numerals, answer_words, further_words, Step}
use Rattle.model_events.specs.declared.{event.Call.Call, event.Then.Then}
use Rattle.text_lines.specs.Call.{name_of}
use Rattle.text_lines.specs.Command.{values_written}
use Rattle.text_trace.specs.declared.cells.Cells.{Cells}

-- The act.

-- words, each behind a space
abbrev pub spaced : List (List ℕ) → List ℕ
spaced [] = []
spaced (word ∷ []) = codes " " ++ word
spaced (word ∷ next ∷ words) = codes " " ++ (word ++ spaced (next ∷ words))

-- a call, as the text asks for it
abbrev pub call_words : {T : Type 0} → Numerals T → Call T → List ℕ
call_words numerals call = name_of call ++ spaced (values_written numerals call)

-- the first word of an object goes without its name
abbrev pub verb_words : List ℕ → Word → List ℕ
verb_words verb Word.State = verb
verb_words verb Word.Counter = verb ++ codes " counter"
verb_words verb Word.Waiters = verb ++ codes " waiters"
verb_words verb Word.Value = verb ++ codes " value"
verb_words verb Word.Low = verb ++ codes " low"
verb_words verb Word.High = verb ++ codes " high"

-- what a step did, and the values that it told and put
abbrev pub act_words : {T : Type 0} → Numerals T → Act T → List ℕ
act_words numerals (Act.Begun call) = call_words numerals call
act_words numerals (Act.Load word seen) = verb_words (codes "load") word ++ (codes ", found " ++ decimal seen)
act_words numerals (Act.Store word put) = verb_words (codes "store") word ++ (codes " " ++ decimal put)
act_words numerals (Act.Swap word old put) = verb_words (codes "swap") word ++ (codes " in " ++ (decimal put ++ (codes ", found " ++ decimal old)))
act_words numerals (Act.Add word old put) = verb_words (codes "add") word ++ (codes ", found " ++ (decimal old ++ (codes ", put " ++ decimal put)))
act_words numerals (Act.Exchange word from to found true) =
    verb_words (codes "exchange") word ++ (codes " " ++ (decimal from ++ (codes " for " ++ (decimal to ++ (codes ", found " ++ (decimal found ++ codes ", done"))))))
act_words numerals (Act.Exchange word from to found false) =
    verb_words (codes "exchange") word ++ (codes " " ++ (decimal from ++ (codes " for " ++ (decimal to ++ (codes ", found " ++ (decimal found ++ codes ", failed"))))))
act_words numerals (Act.Woke Wake.One) = codes "wake one"
act_words numerals (Act.Woke Wake.All) = codes "wake all"
act_words numerals (Act.Answered WaitAction.Continue) = codes "its closure answers Continue"
act_words numerals (Act.Answered WaitAction.Abort) = codes "its closure answers Abort"
act_words numerals (Act.Chosen (Some v)) = codes "its closure answers some " ++ numerals.decimal_of v
act_words numerals (Act.Chosen None) = codes "its closure answers none"
act_words numerals Act.Ended = codes "its closure ends"
act_words numerals (Act.ReadCell v) = codes "read the cell, found " ++ numerals.decimal_of v

-- How the call stands.

abbrev pub going_words : {T : Type 0} → Act T → List ℕ
going_words (Act.Begun call) = codes "begins"
going_words act = codes "goes on"

abbrev pub standing_words : {T : Type 0} → Numerals T → Act T → Then T → List ℕ
standing_words numerals act Then.GoesOn = going_words act
standing_words numerals act (Then.Waits seen) = codes "waits " ++ decimal seen
standing_words numerals act (Then.Chooses old) = codes "chooses " ++ numerals.decimal_of old
standing_words numerals act (Then.Answers answer) = answer_words numerals answer

-- The words of the object: the first, and the others by their names.

abbrev pub words_text : {T : Type 0} → Arithmetic T → Numerals T → Object T → (Word → ℕ) → List ℕ
words_text z numerals o memory = decimal (memory Word.State) ++ further_words z numerals o memory

-- The holds.

abbrev pub kind_words : HoldKind → List ℕ
kind_words HoldKind.Read = codes " reads"
kind_words HoldKind.Write = codes " writes"

-- a party that holds something, and what, where the object has two kinds of holds
abbrev pub holder_words : {T : Type 0} → Object T → ℕ → HoldKind → List ℕ
holder_words Object.ReaderLock party kind = decimal (party + 1) ++ kind_words kind
holder_words Object.WriterLock party kind = decimal (party + 1) ++ kind_words kind
holder_words (Object.Atomic v) party kind = decimal (party + 1) ++ kind_words kind
holder_words other party kind = decimal (party + 1)

abbrev pub after_comma : List ℕ → List ℕ
after_comma [] = []
after_comma (byte ∷ bytes) = (byte ∷ bytes) ++ codes ", "

-- an object's name behind a holder; one object alone has none
abbrev pub behind : List ℕ → List ℕ
behind [] = []
behind (byte ∷ bytes) = codes " " ++ (byte ∷ bytes)

abbrev pub with_holder : {T : Type 0} → Object T → List ℕ → List ℕ → ℕ → Option HoldKind → List ℕ
with_holder o name front party None = front
with_holder o name front party (Some kind) = after_comma front ++ (holder_words o party kind ++ behind name)

-- after others, those of the first parties that hold something of an object after its events
abbrev pub holders : {T : Type 0} → Arithmetic T → Object T → List ℕ → List ℕ → List (Event T) → ℕ → List ℕ
holders z o name front past zero = front
holders z o name front past (suc party) = with_holder o name (holders z o name front past party) party (hold_of (table_of z o) party past)

abbrev pub or_dash : List ℕ → List ℕ
or_dash [] = codes "-"
or_dash (byte ∷ bytes) = byte ∷ bytes

-- who holds what after the events, or `-` where nobody holds anything
abbrev pub holds_text : {T : Type 0} → Arithmetic T → Object T → ℕ → List (Event T) → List ℕ
holds_text z o parties past = or_dash (holders z o [] [] past parties)

-- The cells of a row, but for its number, with the words of each object; and for those that show more of it than a line, the step, its object, and what its
-- party holds of that then.

pub record Texts (T : Type 0) : Type 0 where
  pub step : Step T
  pub object : ℕ
  pub hold : Option HoldKind
  pub line : List ℕ
  pub party : List ℕ
  pub act : List ℕ
  pub words : List (List ℕ)
  pub holds : List ℕ
  pub call : List ℕ

abbrev pub texts_of : {T : Type 0} → Cells T → Texts T
texts_of cells =
    record {
      step = cells.step;
      object = cells.object;
      hold = cells.hold;
      line = string_bytes cells.line;
      party = string_bytes cells.party;
      act = string_bytes cells.act;
      words = map string_bytes cells.words.items;
      holds = string_bytes cells.holds;
      call = string_bytes cells.call;
    }

-- those of a step, after which the events are these
abbrev pub cells_at : {T : Type 0} → Arithmetic T → Numerals T → Header T → List (Event T) → Step T → Texts T
cells_at z numerals header past step =
    record {
      step = step;
      object = 0;
      hold = hold_of (table_of z header.object) step.event.party past;
      line = decimal step.line;
      party = decimal (step.event.party + 1);
      act = act_words numerals step.event.act;
      words = words_text z numerals header.object (word_in z header.object past) ∷ [];
      holds = holds_text z header.object header.parties past;
      call = standing_words numerals step.event.act step.event.then;
    }
