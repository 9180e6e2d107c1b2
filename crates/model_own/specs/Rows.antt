-- What rows that are data mean: a table of steps, as every primitive has one.
use Rattle.std.specs.Prelude.{ℕ, ◌+◌, ◌%◌, ◌^◌, ◌==◌, nat_lt, Bool, true, false, Option, Some, None, List, slice_get, if◌then◌else◌}
use Rattle.model_own.specs.Names.{Table, refused, answered, within, WaitAction, Word, Call, Answer, Intent, After, Number, Test, Operation, Next, Way, Row, OwnPlace, Entry}

abbrev pub number : Number → ℕ → ℕ
number (Number.Is n) kept = n
number (Number.Kept more) kept = (kept + more) % 2 ^ 64

abbrev pub holds_for : Test → ℕ → ℕ → Bool
holds_for (Test.Is of) kept found = found == number of kept
holds_for (Test.Below n) kept found = nat_lt found n
holds_for Test.Odd kept found = found % 2 == 1

-- a step that tells nothing fails its test
abbrev pub passes : Test → ℕ → Option ℕ → Bool
passes test kept None = false
passes test kept (Some found) = holds_for test kept found

abbrev pub intent_by : {T : Type 0} → Operation → ℕ → Intent T
intent_by (Operation.Load word) kept = Intent.Load word
intent_by (Operation.Store word put) kept = Intent.Store word (number put kept)
intent_by (Operation.Swap word put) kept = Intent.Swap word (number put kept)
intent_by (Operation.Add word more) kept = Intent.Add word (number more kept)
intent_by (Operation.Subtract word less) kept = Intent.Subtract word (number less kept)
intent_by (Operation.Exchange word from to) kept = Intent.Exchange word (number from kept) (number to kept)
intent_by (Operation.Wake wake) kept = Intent.Wake wake

-- where there is no row the call ends
abbrev pub intent_of : {T : Type 0} → Option Row → ℕ → Intent T
intent_of None kept = Intent.End
intent_of (Some row) kept = intent_by row.operation kept

-- the way that a step goes by what it told
abbrev pub way_of : Option Row → ℕ → Option ℕ → Option Way
way_of None kept told = None
way_of (Some row) kept told = Some (if passes row.test kept told then row.passed else row.failed)

abbrev pub told_or : Option ℕ → ℕ → ℕ
told_or None kept = kept
told_or (Some found) kept = found

abbrev pub led_to : {T : Type 0} → OwnPlace → Option ℕ → Next → After T OwnPlace
led_to place told (Next.At row) = After.At (record { row = row; kept = told_or told place.kept; patience = place.patience })
led_to place told (Next.Refused row seen) = within (λ p. record { row = row; kept = place.kept; patience = p }) (refused place.patience (number seen (told_or told place.kept)))
led_to place told Next.Success = After.Ends Answer.Success
led_to place told Next.Interrupted = After.Ends Answer.Interrupted
led_to place told Next.Done = After.Ends Answer.Done

abbrev pub led_by : {T : Type 0} → OwnPlace → Option ℕ → Option Way → After T OwnPlace
led_by place told None = After.Ends Answer.Done
led_by place told (Some way) = led_to place told way.next

abbrev pub intent_in : {T : Type 0} → List Row → OwnPlace → Intent T
intent_in rows place = intent_of (slice_get rows place.row) place.kept

abbrev pub way_in : List Row → OwnPlace → Option ℕ → Option Way
way_in rows place told = way_of (slice_get rows place.row) place.kept told

abbrev pub after_in : {T : Type 0} → List Row → OwnPlace → Option ℕ → After T OwnPlace
after_in rows place told = led_by place told (way_in rows place told)

abbrev pub answered_in : OwnPlace → WaitAction → OwnPlace
answered_in place action = record { row = place.row; kept = place.kept; patience = answered place.patience action }

abbrev pub first_place : Option Entry → Option OwnPlace
first_place None = None
first_place (Some entry) = Some (record { row = entry.row; kept = 0; patience = record { spins = 0; keep = true } })

-- which calls there are, and where they begin
abbrev pub Entries : Type 0 → Type 0
Entries T = Call T → Option Entry

-- The table that rows describe, whose words open so. It grants no holds by the kind of a step: its rows say what holds there are.
abbrev pub own_table : {T : Type 0} → (Word → ℕ) → Entries T → List Row → Table T OwnPlace
own_table opening entries rows =
    record {
      opening = opening;
      begins = λ call. first_place (entries call);
      needs_hold = λ call. false;
      grant = λ call from to. None;
      intent = λ place hold. intent_in rows place;
      after = λ place told. after_in rows place told;
      answered = λ place action. answered_in place action;
      chosen = λ place choice. place;
    }
