-- What an event prints, and the last line.
use Rattle.std.specs.Prelude.{ℕ, ◌+◌, ◌-◌, ◌^◌, min, true, false, List, [], ◌∷◌, ◌++◌, codes}
use Rattle.sync_play.specs.Names.{decimal, Word, Wake, Act, Answer, Then, Event, Object, Arithmetic, failures_in, word_in, Numerals}
use Rattle.std.specs.List.{flat_map}

-- how a line of a party begins: with its number, which is counted from 1
abbrev pub party_words : ℕ → List ℕ
party_words party = decimal (party + 1) ++ codes " "

-- a line of a party
abbrev pub party_line : ℕ → List ℕ → List ℕ
party_line party words = decimal (party + 1) ++ (codes " " ++ (words ++ codes "\n"))

abbrev pub answer_words : {T : Type 0} → Numerals T → Answer T → List ℕ
answer_words numerals Answer.Success = codes "success"
answer_words numerals Answer.Interrupted = codes "interrupted"
answer_words numerals Answer.InterruptedHeld = codes "interrupted held"
answer_words numerals Answer.Done = codes "done"
answer_words numerals Answer.Ok = codes "ok"
answer_words numerals Answer.Full = codes "full"
answer_words numerals (Answer.Number n) = decimal n
answer_words numerals (Answer.Flag true) = codes "true"
answer_words numerals (Answer.Flag false) = codes "false"
answer_words numerals (Answer.Value v) = numerals.decimal_of v
answer_words numerals (Answer.OkOld v) = codes "ok " ++ numerals.decimal_of v
answer_words numerals (Answer.ErrOld v) = codes "err " ++ numerals.decimal_of v

-- a call of a wake closure
abbrev pub wake_line : ℕ → Wake → List ℕ
wake_line party Wake.One = party_line party (codes "wakes one")
wake_line party Wake.All = party_line party (codes "wakes all")

abbrev pub act_line : {T : Type 0} → ℕ → Act T → List ℕ
act_line party (Act.Woke wake) = wake_line party wake
act_line party act = []

-- how the call stands then
abbrev pub then_line : {T : Type 0} → Numerals T → ℕ → Then T → List ℕ
then_line numerals party Then.GoesOn = []
then_line numerals party (Then.Waits seen) = party_line party (codes "waits " ++ decimal seen)
then_line numerals party (Then.Chooses old) = party_line party (codes "chooses " ++ numerals.decimal_of old)
then_line numerals party (Then.Answers answer) = party_line party (answer_words numerals answer)

abbrev pub event_lines : {T : Type 0} → Numerals T → Event T → List ℕ
event_lines numerals e = act_line e.party e.act ++ then_line numerals e.party e.then

abbrev pub printed : {T : Type 0} → Numerals T → List (Event T) → List ℕ
printed numerals events = flat_map (event_lines numerals) events

-- The last line: what the run has left.

-- a number by its name
abbrev pub named : List ℕ → List ℕ → List ℕ
named name number = name ++ (codes " " ++ number)

-- what an object's words hold in this memory after the first, by their names; of an atomic the value of its two words
abbrev pub further : {T : Type 0} → Arithmetic T → Numerals T → Object T → (Word → ℕ) → List (List ℕ × List ℕ)
further z numerals Object.WriterLock memory = (codes "counter", decimal (memory Word.Counter)) ∷ []
further z numerals Object.Condvar memory = (codes "waiters", decimal (memory Word.Waiters)) ∷ (codes "value", decimal (memory Word.Value)) ∷ []
further z numerals (Object.Atomic v) memory = (codes "value", numerals.decimal_of (z.of_words (memory Word.Low) (memory Word.High))) ∷ []
further z numerals other memory = []

-- each after a space
abbrev pub further_words : {T : Type 0} → Arithmetic T → Numerals T → Object T → (Word → ℕ) → List ℕ
further_words z numerals o memory = flat_map (λ row. codes " " ++ named row.0 row.1) (further z numerals o memory)

-- the first word, the further ones, and how many exchanges failed
abbrev pub line_of_words : ℕ → List ℕ → ℕ → List ℕ
line_of_words word more failed = named (codes "word") (decimal word) ++ (more ++ (codes " " ++ (named (codes "failed") (decimal failed) ++ codes "\n")))

unfoldable pub last_line : {T : Type 0} → Arithmetic T → Numerals T → Object T → List (Event T) → List ℕ
last_line z numerals o past = line_of_words (word_in z o past Word.State) (further_words z numerals o (word_in z o past)) (min (failures_in past) (2 ^ 64 - 1))
