-- What the events so far tell, newest first: the words, the call that each party has under way, the holds, and the exchanges that failed.
use Rattle.std.specs.Prelude.{ℕ, zero, ◌+◌, Bool, true, false, ◌&&◌, ◌==◌, if◌then◌else◌, List, [], ◌∷◌, Option, Some, None}
use Rattle.model_events.specs.Types.{Word, Call, Act, Then, Event, HoldKind}
use Rattle.model_events.specs.Tables.{Table}

-- The memory.

abbrev pub same_word : Word → Word → Bool
same_word Word.State Word.State = true
same_word Word.Counter Word.Counter = true
same_word Word.Waiters Word.Waiters = true
same_word Word.Value Word.Value = true
same_word Word.Low Word.Low = true
same_word Word.High Word.High = true
same_word a b = false

-- what an act leaves in a word that held this value
abbrev pub word_after : {T : Type 0} → Word → Act T → ℕ → ℕ
word_after word (Act.Store w put) value = if same_word w word then put else value
word_after word (Act.Swap w old put) value = if same_word w word then put else value
word_after word (Act.Add w old put) value = if same_word w word then put else value
word_after word (Act.Exchange w from to found done) value = if (same_word w word && done) then to else value
word_after word other value = value

-- what a word holds after the events
abbrev pub word_in : {T P : Type 0} → Table T P → List (Event T) → Word → ℕ
word_in t [] word = t.opening word
word_in t (e ∷ past) word = word_after word e.act (word_in t past word)

-- the event of a party
abbrev pub event : {T : Type 0} → ℕ → Act T → Then T → Event T
event number act outcome = record { party = number; act = act; «then» = outcome }

-- The calls.

-- a call under way, with its events after the one that began it, newest first
pub record PendingCall (T : Type 0) : Type 0 where
  pub call : Call T
  pub own : List (Event T)

-- the call under way of a party after an event of its own that does not end it
abbrev pub call_going_on : {T : Type 0} → Act T → Event T → Option (PendingCall T) → Option (PendingCall T)
call_going_on (Act.Begun call) e pending = Some (record { call = call; own = [] })
call_going_on act e None = None
call_going_on act e (Some c) = Some (record { call = c.call; own = e ∷ c.own })

-- the call under way of a party after an event of its own
abbrev pub call_after : {T : Type 0} → Then T → Event T → Option (PendingCall T) → Option (PendingCall T)
call_after (Then.Answers answer) e pending = None
call_after other e pending = call_going_on e.act e pending

-- the call that a party has under way
abbrev pub call_of : {T : Type 0} → ℕ → List (Event T) → Option (PendingCall T)
call_of party [] = None
call_of party (e ∷ past) = if e.party == party then call_after e.then e (call_of party past) else call_of party past

-- how a call was left by its latest own event: by itself, before the first
abbrev pub latest_outcome : {T : Type 0} → List (Event T) → Then T
latest_outcome [] = Then.GoesOn
latest_outcome (e ∷ own) = e.then

-- The holds.

-- a hold of the lock: whose, and of which kind
abbrev pub Hold : Type 0
Hold = ℕ × HoldKind

-- a store or an add on the lock's word ends its party's hold
abbrev pub is_release : {T : Type 0} → Act T → Bool
is_release (Act.Store Word.State put) = true
is_release (Act.Add Word.State old put) = true
is_release other = false

-- the hold that an act of a call takes: by a done exchange of the lock's word, or a swap that found 0 there
abbrev pub hold_taken : {T P : Type 0} → Table T P → Act T → Option (PendingCall T) → Option HoldKind
hold_taken t (Act.Exchange Word.State from to found true) (Some c) = t.grant c.call from to
hold_taken t (Act.Swap Word.State zero put) (Some c) = t.grant c.call 0 put
hold_taken t act pending = None

abbrev pub with_hold : ℕ → Option HoldKind → List Hold → List Hold
with_hold party None holds = holds
with_hold party (Some kind) holds = (party, kind) ∷ holds

abbrev pub without : ℕ → List Hold → List Hold
without party [] = []
without party (hold ∷ holds) = if hold.0 == party then without party holds else hold ∷ without party holds

-- the holds that there are after the events
abbrev pub holds_of : {T P : Type 0} → Table T P → List (Event T) → List Hold
holds_of t [] = []
holds_of t (e ∷ past) =
    if is_release e.act
    then without e.party (holds_of t past)
    else with_hold e.party (hold_taken t e.act (call_of e.party past)) (holds_of t past)

-- the hold of a party, the latest where it has several
abbrev pub hold_among : ℕ → List Hold → Option HoldKind
hold_among party [] = None
hold_among party (hold ∷ holds) = if hold.0 == party then Some hold.1 else hold_among party holds

abbrev pub hold_of : {T P : Type 0} → Table T P → ℕ → List (Event T) → Option HoldKind
hold_of t party past = hold_among party (holds_of t past)

-- the hold of a party after an act of its call
abbrev pub hold_or : Option HoldKind → Option HoldKind → Option HoldKind
hold_or None hold = hold
hold_or (Some kind) hold = Some kind

abbrev pub hold_after : {T P : Type 0} → Table T P → Act T → Option (PendingCall T) → Option HoldKind → Option HoldKind
hold_after t act pending hold = if is_release act then None else hold_or (hold_taken t act pending) hold

-- The exchanges that failed.

abbrev pub is_failure : {T : Type 0} → Act T → Bool
is_failure (Act.Exchange word from to found false) = true
is_failure act = false

abbrev pub failures_by : {T : Type 0} → Act T → ℕ
failures_by act = if is_failure act then 1 else 0

abbrev pub failures_in : {T : Type 0} → List (Event T) → ℕ
failures_in [] = 0
failures_in (e ∷ past) = failures_by e.act + failures_in past
