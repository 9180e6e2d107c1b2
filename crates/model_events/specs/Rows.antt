-- The rows of a table of steps: what a step does to the words that it finds, and how its call goes on.
use Rattle.std.specs.Prelude.{◌≡◌, ℕ, ◌+◌, ◌-◌, ◌%◌, ◌^◌, ◌==◌, ◌&&◌, nat_lt, Bool, true, false, if◌then◌else◌, Option, Some, None}
use Rattle.model_events.specs.Types.{WaitAction, Word, Act, Answer, Then, Patience, Intent, After}

-- the act of a step that is to do this, at words that hold this
abbrev pub carried_out : {T : Type 0} → Intent T → (Word → ℕ) → Act T
carried_out (Intent.Load word) memory = Act.Load word (memory word)
carried_out (Intent.Store word put) memory = Act.Store word put
carried_out (Intent.Swap word put) memory = Act.Swap word (memory word) put
carried_out (Intent.Add word more) memory = Act.Add word (memory word) ((memory word + more) % 2 ^ 64)
carried_out (Intent.Subtract word less) memory = Act.Add word (memory word) ((memory word + (2 ^ 64 - less)) % 2 ^ 64)
carried_out (Intent.Exchange word from to) memory = Act.Exchange word from to (memory word) (memory word == from)
carried_out (Intent.Wake wake) memory = Act.Woke wake
carried_out Intent.End memory = Act.Ended
carried_out (Intent.ReadCell value) memory = Act.ReadCell value

-- what an act told of its word
abbrev pub value_told : {T : Type 0} → Act T → Option ℕ
value_told (Act.Load word seen) = Some seen
value_told (Act.Swap word old put) = Some old
value_told (Act.Add word old put) = Some old
value_told (Act.Exchange word from to found done) = Some found
value_told act = None

-- how an event tells how its call goes on
abbrev pub outcome_of : {T P : Type 0} → After T P → Then T
outcome_of (After.At place) = Then.GoesOn
outcome_of (After.Waits place seen) = Then.Waits seen
outcome_of (After.Chooses place old) = Then.Chooses old
outcome_of (After.Ends answer) = Then.Answers answer

-- the place from where it goes on, if it does
abbrev pub place_after : {T P : Type 0} → After T P → Option P
place_after (After.At place) = Some place
place_after (After.Waits place seen) = Some place
place_after (After.Chooses place old) = Some place
place_after (After.Ends answer) = None

-- the same with the place as a place of something larger
abbrev pub within : {T P Q : Type 0} → (P → Q) → After T P → After T Q
within wrap (After.At place) = After.At (wrap place)
within wrap (After.Waits place seen) = After.Waits (wrap place) seen
within wrap (After.Chooses place old) = After.Chooses (wrap place) old
within wrap (After.Ends answer) = After.Ends answer

-- the same, but where this ends the larger thing goes on as its answer tells
abbrev pub within_then : {T P Q : Type 0} → (P → Q) → (Answer T → After T Q) → After T P → After T Q
within_then wrap next (After.At place) = After.At (wrap place)
within_then wrap next (After.Waits place seen) = After.Waits (wrap place) seen
within_then wrap next (After.Chooses place old) = After.Chooses (wrap place) old
within_then wrap next (After.Ends answer) = next answer

-- after a call of a closure that wraps places
abbrev pub IsWithin : {T P Q : Type 0} → (P → Q → Type 0) → After T P → After T Q → Type 0
IsWithin {T} {P} {Q} Wraps (After.At place) result = (wrapped : Q) × Wraps place wrapped × (result ≡ After.At wrapped)
IsWithin {T} {P} {Q} Wraps (After.Waits place seen) result = (wrapped : Q) × Wraps place wrapped × (result ≡ After.Waits wrapped seen)
IsWithin {T} {P} {Q} Wraps (After.Chooses place old) result = (wrapped : Q) × Wraps place wrapped × (result ≡ After.Chooses wrapped old)
IsWithin Wraps (After.Ends answer) result = result ≡ After.Ends answer

-- A refused call spins 10000 times, then stands at its wait closure; once that has answered Abort, it gives up.
abbrev pub refused : {T : Type 0} → Patience → ℕ → After T Patience
refused p seen =
    if p.keep
    then (if nat_lt p.spins 10000 then After.At (record { spins = p.spins + 1; keep = p.keep }) else After.Waits p seen)
    else After.Ends Answer.Interrupted

abbrev pub is_continue : WaitAction → Bool
is_continue WaitAction.Continue = true
is_continue WaitAction.Abort = false

abbrev pub answered : Patience → WaitAction → Patience
answered p action = record { spins = p.spins; keep = p.keep && is_continue action }
