-- An atomic as one register, by the model's acts; what a pass counts of its steps; and what the run says of all passes.
use Rattle.std.specs.Prelude.{◌≡◌, ℕ, ◌-◌, ◌^◌, ◌==◌, true, if◌then◌else◌, List, [], ◌∷◌, ◌++◌, length, slice_index, Option, Some, None}
use Rattle.running_atomic.specs.Names.{Word, Call, Act, Event, Arithmetic, IsValue, IsClosed, word_in, AtomicPlace, atomic_table, RegisterAct, plain, update, ends_at_look, acts_of_run, register_after, one_more, Held, Free, Reading, Writing, Locks, seen, Sights, sights_after, AtomicTally, Content, AtomicAct, Place, Heard}
use Rattle.running_atomic.specs.declared.history.Place.TheVariants.{Is}
use Rattle.running_atomic.specs.History.{content, heard, atomic_tally}

module _ {T : Type 0} (z : Arithmetic T) where
  abbrev pub value_of : Content → T
  value_of x = z.of_words x.low x.high

  -- the act that a place of the history stands for
  abbrev pub act_in : AtomicAct → RegisterAct T
  act_in AtomicAct.Load = plain Call.Load
  act_in (AtomicAct.Store x) = plain (Call.Store (value_of x))
  act_in (AtomicAct.Swap x) = plain (Call.Swap (value_of x))
  act_in (AtomicAct.CompareExchange x y) = plain (Call.CompareExchange (value_of x) (value_of y))
  act_in (AtomicAct.CompareExchangeWeak x y) = plain (Call.CompareExchangeWeak (value_of x) (value_of y))
  act_in (AtomicAct.FetchAdd x) = plain (Call.FetchAdd (value_of x))
  act_in (AtomicAct.FetchSub x) = plain (Call.FetchSub (value_of x))
  act_in (AtomicAct.FetchAnd x) = plain (Call.FetchAnd (value_of x))
  act_in (AtomicAct.FetchOr x) = plain (Call.FetchOr (value_of x))
  act_in (AtomicAct.FetchXor x) = plain (Call.FetchXor (value_of x))
  act_in (AtomicAct.FetchNand x) = plain (Call.FetchNand (value_of x))
  act_in (AtomicAct.FetchMax x) = plain (Call.FetchMax (value_of x))
  act_in (AtomicAct.FetchMin x) = plain (Call.FetchMin (value_of x))
  act_in (AtomicAct.FetchUpdate None) = update None
  act_in (AtomicAct.FetchUpdate (Some x)) = update (Some (value_of x))

  abbrev pub acts_in : List AtomicAct → List (RegisterAct T)
  acts_in [] = []
  acts_in (a ∷ acts) = act_in a ∷ acts_in acts

  -- and the words of an act

  abbrev words_of : T → Content
  words_of x = content (z.low x) (z.high x)

  abbrev written_with : Call T → Option (Option T) → AtomicAct
  written_with (Call.Store x) choice = AtomicAct.Store (words_of x)
  written_with (Call.Swap x) choice = AtomicAct.Swap (words_of x)
  written_with (Call.CompareExchange x y) choice = AtomicAct.CompareExchange (words_of x) (words_of y)
  written_with (Call.CompareExchangeWeak x y) choice = AtomicAct.CompareExchangeWeak (words_of x) (words_of y)
  written_with (Call.FetchAdd x) choice = AtomicAct.FetchAdd (words_of x)
  written_with (Call.FetchSub x) choice = AtomicAct.FetchSub (words_of x)
  written_with (Call.FetchAnd x) choice = AtomicAct.FetchAnd (words_of x)
  written_with (Call.FetchOr x) choice = AtomicAct.FetchOr (words_of x)
  written_with (Call.FetchXor x) choice = AtomicAct.FetchXor (words_of x)
  written_with (Call.FetchNand x) choice = AtomicAct.FetchNand (words_of x)
  written_with (Call.FetchMax x) choice = AtomicAct.FetchMax (words_of x)
  written_with (Call.FetchMin x) choice = AtomicAct.FetchMin (words_of x)
  written_with Call.FetchUpdate (Some (Some x)) = AtomicAct.FetchUpdate (Some (words_of x))
  written_with Call.FetchUpdate choice = AtomicAct.FetchUpdate None
  written_with other choice = AtomicAct.Load

  abbrev pub written : RegisterAct T → AtomicAct
  written a = written_with a.call a.choice

  -- which give it back, where its values are values of their type
  abbrev pub IsWritten : RegisterAct T → Type 0
  IsWritten a = act_in (written a) ≡ a

  abbrev pub all_written : List (RegisterAct T) → List AtomicAct
  all_written [] = []
  all_written (a ∷ acts) = written a ∷ all_written acts

  -- the acts of a run, in words
  abbrev pub history_of_run : List (Event T) → List AtomicAct
  history_of_run past = all_written (acts_of_run z past)

-- the acts that are known from the first on
abbrev pub prefix : List (Place AtomicAct) → List AtomicAct
prefix (Is a ∷ places) = a ∷ prefix places
prefix other = []

-- the history as far as it was seen
abbrev pub history_in : {T : Type 0} → Arithmetic T → Heard → List (RegisterAct T)
history_in z t = acts_in z (prefix t.seen)

-- all of a history is known
abbrev pub known : List AtomicAct → List (Place AtomicAct)
known [] = []
known (a ∷ acts) = Is a ∷ known acts

-- one for each act
abbrev pub each_once : {A : Type 0} → List A → List ℕ
each_once [] = []
each_once (a ∷ acts) = 1 ∷ each_once acts

abbrev pub data_of : List ℕ → Content
data_of words = content (slice_index words 1) (slice_index words 2)

-- the words of the register: the data words, but under a write hold those that it found
abbrev pub register_of : {X : Type 0} → Held X → X → X
register_of (Writing x found) d = found
register_of other d = d

-- one read hold stands
abbrev pub IsReading : {X : Type 0} → Held X → Type 0
IsReading (Reading n x) = n ≡ 0
IsReading other = ⊥

-- a write hold stands
abbrev pub IsWriting : {X : Type 0} → Held X → Type 0
IsWriting (Writing x found) = Unit {0}
IsWriting other = ⊥

-- and the data words are the register's
abbrev pub IsSettled : {X : Type 0} → Held X → Type 0
IsSettled (Writing x found) = x ≡ found
IsSettled other = ⊥

-- What an act makes of a tally.

-- what the data words hold
abbrev pub data_in : (Word → ℕ) → Content
data_in memory = content (memory Word.Low) (memory Word.High)

-- one data word is stored, under a write hold
abbrev pub put_low : ℕ → Held Content → Held Content
put_low low (Writing x found) = Writing (content low x.high) found
put_low low other = other

-- and with the high one the call acts
abbrev pub put_high : ℕ → Held Content → Held Content
put_high high (Writing x found) = Writing (content x.low high) (content x.low high)
put_high high other = other

-- An exchange of the lock's word takes a hold, which knows the data words: for 2 ^ 64 - 1 the write hold. A store of it or a subtraction ends one.
abbrev pub held_after : {T : Type 0} → Content → Act T → Held Content → Held Content
held_after d (Act.Exchange Word.State from to found true) h = if to == 2 ^ 64 - 1 then Writing d d else Reading 0 d
held_after d (Act.Store Word.State put) h = Free
held_after d (Act.Add Word.State old put) h = Free
held_after d (Act.Store Word.Low put) h = put_low put h
held_after d (Act.Store Word.High put) h = put_high put h
held_after d act h = h

-- the pass knows all of the history, with one act more, which is its own
abbrev pub more : List AtomicAct → AtomicAct → Heard → Heard
more h a t = heard (known (h ++ a ∷ [])) (one_more (length h) t.own)

module _ {T : Type 0} (z : Arithmetic T) where
  -- the act that is a load of the high word at this place, where the low one was told before
  abbrev pub looked_at : AtomicPlace T → ℕ → Option (RegisterAct T)
  looked_at (AtomicPlace.High call low) found = if ends_at_look z call None (z.of_words low found) then Some (plain call) else None
  looked_at (AtomicPlace.Again old) found = Some (update None)
  looked_at other found = None

  -- and the one that is a store of it, which makes this value
  abbrev pub stored : Call T → T → RegisterAct T
  stored Call.FetchUpdate new = update (Some new)
  stored call new = plain call

  -- the act on the register that an act is, where the low word is this
  abbrev pub acted_by : ℕ → Act T → AtomicPlace T → Call T → Option (RegisterAct T)
  acted_by low (Act.Load Word.High found) place call = looked_at place found
  acted_by low (Act.Store Word.High put) place call = Some (stored call (z.of_words low put))
  acted_by low act place call = None

  abbrev pub heard_after : List AtomicAct → Option (RegisterAct T) → Heard → Heard
  heard_after h None t = t
  heard_after h (Some a) t = more h (written z a) t

  abbrev pub tally_after : T → List (Event T) → AtomicPlace T → Act T → Call T → AtomicTally → AtomicTally
  tally_after opening past place act call t =
      atomic_tally (held_after (data_in (word_in (atomic_table z opening) past)) act t.hold) (heard_after (history_of_run z past) (acted_by (word_in (atomic_table z opening) past Word.Low) act place call) t.heard)

-- What an act needs of it: one that takes a hold that there is none, one that ends a hold or writes a data word the hold.
abbrev pub tally_needs : {T : Type 0} → Act T → AtomicTally → Type 0
tally_needs (Act.Exchange word from to found done) t = t.hold ≡ Free
tally_needs (Act.Store Word.State put) t = IsSettled t.hold
tally_needs (Act.Store word put) t = IsWriting t.hold
tally_needs (Act.Add word old put) t = IsReading t.hold
tally_needs act t = Unit {0}

-- The sights are of the lock's word.
abbrev pub lock_sights : {T : Type 0} → Act T → Sights → Sights
lock_sights (Act.Load Word.State found) s = seen s found
lock_sights (Act.Load word found) s = s
lock_sights act s = sights_after act s

-- The opening value is one of the type's, whose operators lead from values to values. The lock's word counts the holds, each of which knows the
-- data words. These are the register, or, under a write hold, what they were when it came in or last acted. And what all passes have seen together
-- is, act for act and in order, what the run has of acts, each of them one pass's own.
pub record IsRegister {T : Type 0} (z : Arithmetic T) (opening : T) (past : List (Event T)) (t : AtomicTally) : Type 0 where
  pub closed : IsClosed z
  pub opening_is : IsValue z opening
  pub locks : Locks (word_in (atomic_table z opening) past Word.State) (data_in (word_in (atomic_table z opening) past)) t.hold
  pub value_is : value_of z (register_of t.hold (data_in (word_in (atomic_table z opening) past))) ≡ register_after z opening past
  pub seen : t.heard.seen ≡ known (history_of_run z past)
  pub own : t.heard.own ≡ each_once (history_of_run z past)
  pub acts_are : acts_in z (history_of_run z past) ≡ acts_of_run z past
