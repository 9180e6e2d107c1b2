-- What an atomic keeps at every prefix of every run: one writer or only readers, and it answers as one register.
use Rattle.std.specs.Prelude.{◌≡◌, ◌≢◌, ◌<◌, ℕ, Bool, true, false, not, ◌&&◌, ◌||◌, is_some, List, [], ◌∷◌, Option, Some, None, MatchOption}
use Rattle.model_atomic.specs.Names.{Word, Call, Act, Then, Event, Arithmetic, HoldKind, PendingCall, call_of, holds_of, hold_of, word_in, acts_in, StepsAs, writes_in, Keeps, CountsHolds}
use Rattle.model_atomic.specs.Register.{register_after, answer_of, choice_of, HasChosen, acts_made, is_data_access, is_data_write}
use Rattle.model_atomic.specs.Table.{atomic_table}
use Rattle.model_atomic.specs.Steps.{AtomicStep}

-- no call is refused
abbrev pub AtomicCause : {T : Type 0} → Call T → ℕ → List (Event T) → Type 0
AtomicCause call party events = ⊥

-- the register's value as the two data words tell it, while nobody writes them
abbrev pub DataIsRegister : {T : Type 0} → Arithmetic T → T → List (Event T) → Type 0
DataIsRegister z v past =
    writes_in (holds_of (atomic_table z v) past) ≡ 0 →
    z.of_words (word_in (atomic_table z v) past Word.Low) (word_in (atomic_table z v) past Word.High) ≡ register_after z v past

-- an answer is what the register answered the call, which has acted once; and a choice closure is told the register's value
abbrev pub AnswersAsRegister : {T : Type 0} → Arithmetic T → T → ℕ → List (Event T) → Then T → Type 0
AnswersAsRegister z v party past (Then.Answers answer) =
    (answer_of z v party past ≡ Some answer) × MatchOption (call_of party past) ⊥ (λ c. (acts_made z c.call c.own ≡ 1) × HasChosen c.call (choice_of c.own))
AnswersAsRegister z v party past (Then.Chooses old) =
    (old ≡ register_after z v past) × MatchOption (call_of party past) ⊥ (λ c. (c.call ≡ Call.FetchUpdate) × (choice_of c.own ≡ None))
AnswersAsRegister z v party past (Then.Waits seen) = ⊥
AnswersAsRegister z v party past Then.GoesOn = Unit {0}

abbrev pub LatestAnswers : {T : Type 0} → Arithmetic T → T → List (Event T) → Type 0
LatestAnswers z v [] = Unit {0}
LatestAnswers z v (e ∷ past) = AnswersAsRegister z v e.party past e.then

-- whoever reads or writes a data word has the lock
abbrev pub AccessesUnderHold : {T : Type 0} → Arithmetic T → T → List (Event T) → Type 0
AccessesUnderHold z v [] = Unit {0}
AccessesUnderHold z v (e ∷ past) = is_data_access e.act ≡ true → is_some (hold_of (atomic_table z v) e.party past) ≡ true

-- a call makes four data accesses at most
abbrev pub FewAccesses : {T : Type 0} → List (Event T) → Type 0
FewAccesses past = (party : ℕ) → MatchOption (call_of party past) (Unit {0}) (λ c. acts_in is_data_access c.own < 5)

-- the lock is left where a call ends: a party without a call has no hold
abbrev pub RestsWithout : {T : Type 0} → Arithmetic T → T → List (Event T) → Type 0
RestsWithout z v past = (party : ℕ) → call_of party past ≡ None → hold_of (atomic_table z v) party past ≡ None

-- the party has the lock for writing, and no other call under way has read or written a data word yet
pub record IsAlone {T : Type 0} (z : Arithmetic T) (v : T) (party : ℕ) (past : List (Event T)) : Type 0 where
  pub held : hold_of (atomic_table z v) party past ≡ Some HoldKind.Write
  pub untouched : (other : ℕ) → other ≢ party → MatchOption (call_of other past) (Unit {0}) (λ c. acts_in is_data_access c.own ≡ 0)

-- a call that writes nothing
abbrev pub is_load : {T : Type 0} → Call T → Bool
is_load Call.Load = true
is_load call = false

abbrev pub only_reads : {T : Type 0} → Option (PendingCall T) → Bool
only_reads None = false
only_reads (Some c) = is_load c.call

-- the act writes a data word, or reads one in a call that writes
abbrev pub accesses_to_write : {T : Type 0} → Act T → Option (PendingCall T) → Bool
accesses_to_write act pending = is_data_write act || (is_data_access act && not (only_reads pending))

-- whose act that is, is alone: so no access of a writing call falls between two accesses of another call
abbrev pub WritesAlone : {T : Type 0} → Arithmetic T → T → List (Event T) → Type 0
WritesAlone z v [] = Unit {0}
WritesAlone z v (e ∷ past) = accesses_to_write e.act (call_of e.party past) ≡ true → IsAlone z v e.party past

-- What an atomic keeps beside what every object does.
pub record AtomicLaw {T : Type 0} (z : Arithmetic T) (v : T) (past : List (Event T)) : Type 0 where
  -- the lock's word is the number of read holds, or 2^64 - 1 with one write hold and no other
  pub counts : CountsHolds (word_in (atomic_table z v) past Word.State) (holds_of (atomic_table z v) past)
  -- while nobody has the lock for writing, the data words are the register's value
  pub held : DataIsRegister z v past
  -- the calls answer as one register does
  pub register : LatestAnswers z v past
  -- the data words are read and written under the lock
  pub accesses : AccessesUnderHold z v past
  -- and no writing call reads or writes one between the accesses of another call, so no value is read half written
  pub apart : WritesAlone z v past
  -- a call leaves the lock in five steps of its own at most
  pub few : FewAccesses past
  -- and has left it where it answers
  pub rests : RestsWithout z v past
  -- each step is the one that follows its call's own, and leaves it by what it tells
  pub steps : StepsAs (AtomicStep z) past

abbrev pub KeepsAtomic : {T : Type 0} → Arithmetic T → T → List (Event T) → Type 0
KeepsAtomic z v past = Keeps (atomic_table z v) AtomicCause (AtomicLaw z v) past
