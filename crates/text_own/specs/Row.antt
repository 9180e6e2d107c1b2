-- What the line of a row says.
use Rattle.std.specs.Prelude.{ℕ, zero, suc, ◌-◌, ◌^◌, if◌then◌else◌, List, [], ◌∷◌, Option, Some, None, Result, Ok, Err, codes}
use Rattle.std.specs.Borrow.{Bor}
use Rattle.text_own.specs.Names.{bytes_eq, words_of, number_within, nothing, place_of, ◌>>=◌, LineFault, Wake, Word, HoldKind, HoldChange, Next, Number, Operation, Row, Test, Way}
use Rattle.model_own.specs.declared.Test.TheVariants as tests
use Rattle.text_own.specs.declared.row.Verb.{Verb}

-- what was read, and the words that are left
abbrev pub read : {V : Type 0} → Result (V × Bor (List ℕ)) LineFault → Result (V × List (List ℕ)) LineFault
read (Ok it) = Ok (it.0, words_of it.1.now)
read (Err fault) = Err fault

abbrev pub rest_of : Result (Bor (List ℕ)) LineFault → Result (List (List ℕ)) LineFault
rest_of (Ok rest) = Ok (words_of rest.now)
rest_of (Err fault) = Err fault

abbrev pub verb_of : List ℕ → Option Verb
verb_of word =
    if bytes_eq word (codes "load") then Some Verb.Load
    else if bytes_eq word (codes "store") then Some Verb.Store
    else if bytes_eq word (codes "swap") then Some Verb.Swap
    else if bytes_eq word (codes "add") then Some Verb.Add
    else if bytes_eq word (codes "sub") then Some Verb.Subtract
    else if bytes_eq word (codes "exchange") then Some Verb.Exchange
    else if bytes_eq word (codes "wake") then Some Verb.Wake
    else None

-- A number, or what the step before was told.
abbrev pub numeral : List ℕ → Result Number LineFault
numeral word = if bytes_eq word (codes "found") then Ok (Number.Kept 0) else (number_within 0 (2 ^ 64 - 1) word >>= λ n. Ok (Number.Is n))

abbrev pub number_in : List (List ℕ) → Result (Number × List (List ℕ)) LineFault
number_in [] = Err LineFault.BadLine
number_in (word ∷ words) = numeral word >>= λ n. Ok (n, words)

abbrev pub plain_in : List (List ℕ) → Result (ℕ × List (List ℕ)) LineFault
plain_in [] = Err LineFault.BadLine
plain_in (word ∷ words) = number_within 0 (2 ^ 64 - 1) word >>= λ n. Ok (n, words)

-- The words of a lock are named in order.
abbrev pub word_at : ℕ → Option Word
word_at zero = Some Word.State
word_at (suc zero) = Some Word.Counter
word_at (suc (suc zero)) = Some Word.Waiters
word_at (suc (suc (suc zero))) = Some Word.Value
word_at (suc (suc (suc (suc zero)))) = Some Word.Low
word_at (suc (suc (suc (suc (suc zero))))) = Some Word.High
word_at (suc (suc (suc (suc (suc (suc more)))))) = None

abbrev pub or_bad : {A : Type 0} → Option A → Result A LineFault
or_bad None = Err LineFault.BadLine
or_bad (Some it) = Ok it

abbrev pub word_named : List (List ℕ) → List ℕ → Result Word LineFault
word_named names name = or_bad (place_of names name) >>= λ at. or_bad (word_at at)

abbrev pub on_in : List (List ℕ) → List (List ℕ) → Result (Word × List (List ℕ)) LineFault
on_in names [] = Err LineFault.BadLine
on_in names (name ∷ words) = word_named names name >>= λ word. Ok (word, words)

abbrev pub on_with_number : List (List ℕ) → List (List ℕ) → Result ((Word × Number) × List (List ℕ)) LineFault
on_with_number names words = on_in names words >>= λ on. number_in on.1 >>= λ number. Ok ((on.0, number.0), number.1)

abbrev pub wake_in : List (List ℕ) → Result (Wake × List (List ℕ)) LineFault
wake_in [] = Err LineFault.BadLine
wake_in (word ∷ words) = if bytes_eq word (codes "one") then Ok (Wake.One, words) else if bytes_eq word (codes "all") then Ok (Wake.All, words) else Err LineFault.BadLine

-- What a step does, by its verb.
abbrev pub operation_by : Verb → List (List ℕ) → List (List ℕ) → Result (Operation × List (List ℕ)) LineFault
operation_by Verb.Load names words = on_in names words >>= λ on. Ok (Operation.Load on.0, on.1)
operation_by Verb.Store names words = on_with_number names words >>= λ on. Ok (Operation.Store on.0.0 on.0.1, on.1)
operation_by Verb.Swap names words = on_with_number names words >>= λ on. Ok (Operation.Swap on.0.0 on.0.1, on.1)
operation_by Verb.Add names words = on_with_number names words >>= λ on. Ok (Operation.Add on.0.0 on.0.1, on.1)
operation_by Verb.Subtract names words = on_with_number names words >>= λ on. Ok (Operation.Subtract on.0.0 on.0.1, on.1)
operation_by Verb.Exchange names words = on_with_number names words >>= λ on. number_in on.1 >>= λ to. Ok (Operation.Exchange on.0.0 on.0.1 to.0, to.1)
operation_by Verb.Wake names words = wake_in words >>= λ wake. Ok (Operation.Wake wake.0, wake.1)

abbrev pub row_in : List (List ℕ) → List (List ℕ) → Result (ℕ × List (List ℕ)) LineFault
row_in labels [] = Err LineFault.BadLine
row_in labels (label ∷ words) = or_bad (place_of labels label) >>= λ row. Ok (row, words)

-- what stands behind a word that has to be there
abbrev pub past : List ℕ → List (List ℕ) → Result (List (List ℕ)) LineFault
past name [] = Err LineFault.BadLine
past name (word ∷ words) = if bytes_eq word name then Ok words else Err LineFault.BadLine

-- How a call goes on.
abbrev pub next_by : List (List ℕ) → List ℕ → List (List ℕ) → Result (Next × List (List ℕ)) LineFault
next_by labels word words =
    if bytes_eq word (codes "at") then (row_in labels words >>= λ row. Ok (Next.At row.0, row.1))
    else if bytes_eq word (codes "refused") then (row_in labels words >>= λ row. past (codes "told") row.1 >>= λ left. number_in left >>= λ seen. Ok (Next.Refused row.0 seen.0, seen.1))
    else if bytes_eq word (codes "success") then Ok (Next.Success, words)
    else if bytes_eq word (codes "interrupted") then Ok (Next.Interrupted, words)
    else if bytes_eq word (codes "done") then Ok (Next.Done, words)
    else Err LineFault.BadLine

abbrev pub next_in : List (List ℕ) → List (List ℕ) → Result (Next × List (List ℕ)) LineFault
next_in labels [] = Err LineFault.BadLine
next_in labels (word ∷ words) = next_by labels word words

abbrev pub kind_in : List (List ℕ) → Result (HoldKind × List (List ℕ)) LineFault
kind_in [] = Err LineFault.BadLine
kind_in (word ∷ words) = if bytes_eq word (codes "write") then Ok (HoldKind.Write, words) else if bytes_eq word (codes "read") then Ok (HoldKind.Read, words) else Err LineFault.BadLine

-- What becomes of the hold; it is kept where nothing is said of it.
abbrev pub change_in : List (List ℕ) → Result (HoldChange × List (List ℕ)) LineFault
change_in [] = Ok (HoldChange.Keeps, [])
change_in (word ∷ words) =
    if bytes_eq word (codes "hold") then (kind_in words >>= λ kind. Ok (HoldChange.Takes kind.0, kind.1))
    else if bytes_eq word (codes "ends") then (past (codes "hold") words >>= λ left. Ok (HoldChange.Ends, left))
    else Ok (HoldChange.Keeps, word ∷ words)

abbrev pub way_in : List (List ℕ) → List (List ℕ) → Result (Way × List (List ℕ)) LineFault
way_in labels words = next_in labels words >>= λ next. change_in next.1 >>= λ change. Ok (record { change = change.0; next = next.0 }, change.1)

abbrev pub one_way : List (List ℕ) → Operation → List (List ℕ) → Result Row LineFault
one_way labels operation words =
    way_in labels words >>= λ way. nothing way.1 >>= λ _. Ok (record { operation = operation; test = Test.Is (Number.Is 0); passed = way.0; failed = way.0 })

abbrev pub two_ways : List (List ℕ) → Operation → Test → List (List ℕ) → Result Row LineFault
two_ways labels operation test words =
    way_in labels words >>= λ passed. past (codes "else") passed.1 >>= λ left. way_in labels left >>= λ failed. nothing failed.1 >>= λ _.
    Ok (record { operation = operation; test = test; passed = passed.0; failed = failed.0 })

-- A row: its test, where it has one, and its ways.
abbrev pub ways_by : List (List ℕ) → Operation → List ℕ → List (List ℕ) → Result Row LineFault
ways_by labels operation word words =
    if bytes_eq word (codes "is") then (number_in words >>= λ n. two_ways labels operation (Test.Is n.0) n.1)
    else if bytes_eq word (codes "below") then (plain_in words >>= λ n. two_ways labels operation (tests.Below n.0) n.1)
    else if bytes_eq word (codes "odd") then two_ways labels operation Test.Odd words
    else one_way labels operation (word ∷ words)

abbrev pub ways_in : List (List ℕ) → Operation → List (List ℕ) → Result Row LineFault
ways_in labels operation [] = Err LineFault.BadLine
ways_in labels operation (word ∷ words) = ways_by labels operation word words

abbrev pub row_of : List (List ℕ) → List (List ℕ) → Verb → List (List ℕ) → Result Row LineFault
row_of names labels verb words = operation_by verb names words >>= λ operation. ways_in labels operation.0 operation.1
