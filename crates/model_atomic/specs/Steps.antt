-- What a call of an atomic does next, by its own steps so far, and how it is left by what that tells.
use Rattle.std.specs.Prelude.{◌≡◌, ℕ, ◌+◌, ◌-◌, ◌^◌, ◌==◌, Bool, true, false, is_some, unwrap_or, List, [], ◌∷◌, Option, Some, None, MatchBool, MatchOption}
use Rattle.model_atomic.specs.Names.{Word, Call, Act, Event, Then, HoldKind, Arithmetic, is_step, is_done_exchange, last_of, seen_last, Loads, Exchanges, open_at, may_read, Releases}
use Rattle.model_atomic.specs.Register.{Outcome, act_of, choice_of, low_told, acts_made}

abbrev pub goes_on_at : {T : Type 0} → ℕ → Then T
goes_on_at told = Then.GoesOn

-- Into the lock.

-- the hold that a call takes before it acts; no other call has a step
abbrev pub wants : {T : Type 0} → Call T → Option HoldKind
wants Call.Load = Some HoldKind.Read
wants (Call.Store x) = Some HoldKind.Write
wants (Call.Swap x) = Some HoldKind.Write
wants (Call.CompareExchange c x) = Some HoldKind.Write
wants (Call.CompareExchangeWeak c x) = Some HoldKind.Write
wants (Call.FetchAdd x) = Some HoldKind.Write
wants (Call.FetchSub x) = Some HoldKind.Write
wants (Call.FetchAnd x) = Some HoldKind.Write
wants (Call.FetchOr x) = Some HoldKind.Write
wants (Call.FetchXor x) = Some HoldKind.Write
wants (Call.FetchNand x) = Some HoldKind.Write
wants (Call.FetchMax x) = Some HoldKind.Write
wants (Call.FetchMin x) = Some HoldKind.Write
wants Call.FetchUpdate = Some HoldKind.Write
wants other = None

-- A reader looks, until it sees a value from which it may enter, and from that makes its exchange; a writer makes its exchange again and again.
abbrev pub Enters : {T : Type 0} → HoldKind → List (Event T) → Act T → Then T → Type 0
Enters HoldKind.Read own act outcome =
    MatchOption (open_at may_read (seen_last Word.State own))
    (Loads Word.State goes_on_at act outcome)
    (λ v. Exchanges Word.State v (v + 1) Then.GoesOn goes_on_at act outcome)
Enters HoldKind.Write own act outcome = Exchanges Word.State 0 (2 ^ 64 - 1) Then.GoesOn goes_on_at act outcome

abbrev pub has_entered : {T : Type 0} → List (Event T) → Bool
has_entered own = is_some (last_of (is_done_exchange Word.State) own)

-- What it was told.

-- the high word, by its first load of it
abbrev pub high_in : {T : Type 0} → Act T → Option ℕ → Option ℕ
high_in (Act.Load Word.High seen) before = Some (unwrap_or before seen)
high_in other before = before

abbrev pub high_told : {T : Type 0} → List (Event T) → Option ℕ
high_told [] = None
high_told (e ∷ own) = high_in e.act (high_told own)

-- the value that it found
abbrev pub value_found : {T : Type 0} → Arithmetic T → List (Event T) → T
value_found z own = z.of_words (low_told own) (unwrap_or (high_told own) 0)

-- what its act at that value answers, and the new value
abbrev pub acts_so : {T : Type 0} → Arithmetic T → Call T → List (Event T) → Outcome T
acts_so z call own = act_of z call (choice_of own) (value_found z own)

-- Under the lock.

abbrev pub Stores : {T : Type 0} → Word → ℕ → Act T → Then T → Type 0
Stores word value (Act.Store w put) outcome = (w ≡ word) × (put ≡ value) × (outcome ≡ Then.GoesOn)
Stores word value act outcome = ⊥

-- a `Store` need not know what it writes over
abbrev pub BeginsData : {T : Type 0} → Arithmetic T → Call T → Act T → Then T → Type 0
BeginsData z (Call.Store x) act outcome = Stores Word.Low (z.low x) act outcome
BeginsData z other act outcome = Loads Word.Low goes_on_at act outcome

-- a `FetchUpdate` that knows the value stands at its choice closure
abbrev pub left_knowing : {T : Type 0} → Call T → T → Then T
left_knowing Call.FetchUpdate old = Then.Chooses old
left_knowing other old = Then.GoesOn

-- and where that chose none it has nothing to store, and reads again
abbrev pub reads_again : {T : Type 0} → Call T → Option (Option T) → Bool
reads_again Call.FetchUpdate (Some (Some new)) = false
reads_again Call.FetchUpdate choice = true
reads_again other choice = false

-- until it has acted a call goes from one access to the next, by its latest step: read low, read high, put low, put high
abbrev pub Accesses : {T : Type 0} → Arithmetic T → Call T → List (Event T) → Option (Act T) → Act T → Then T → Type 0
Accesses z call own (Some (Act.Exchange word from to found done)) act outcome = BeginsData z call act outcome
Accesses z call own (Some (Act.Load Word.Low low)) act outcome = Loads Word.High (λ high. left_knowing call (z.of_words low high)) act outcome
Accesses z call own (Some (Act.Load Word.High high)) act outcome =
    MatchBool (reads_again call (choice_of own))
    (Loads Word.High goes_on_at act outcome)
    (Stores Word.Low (z.low (acts_so z call own).1) act outcome)
Accesses z call own (Some (Act.Store Word.Low put)) act outcome = Stores Word.High (z.high (acts_so z call own).1) act outcome
Accesses z call own other act outcome = ⊥

-- The next step of each call: it enters the lock, and goes from access to access; once it has acted it leaves the lock, and answers.
abbrev pub StepUnder : {T : Type 0} → Arithmetic T → HoldKind → Call T → List (Event T) → Act T → Then T → Type 0
StepUnder z kind call own act outcome =
    MatchBool (acts_made z call own == 0)
    (MatchBool (has_entered own) (Accesses z call own (last_of is_step own) act outcome) (Enters kind own act outcome))
    (Releases (Then.Answers (acts_so z call own).0) act outcome)

abbrev pub AtomicStep : {T : Type 0} → Arithmetic T → Call T → List (Event T) → Act T → Then T → Type 0
AtomicStep z call own act outcome = MatchOption (wants call) ⊥ (λ kind. StepUnder z kind call own act outcome)
