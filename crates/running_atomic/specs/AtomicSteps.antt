-- What the steps of an atomic tell, and what holds whenever its rule does.
use Rattle.std.specs.Prelude.{◌≡◌, ◌≢◌, ℕ, false, MatchBool, List, [], ◌∷◌, ◌++◌, length, None}
use Rattle.running_atomic.specs.Names.{Call, Answer, Arithmetic, IsValue, IsClosed, View, IsWhole, together, missed, wrote, sum_of, IsCounted, one_more, both_counts, Held, Free, Reading, Writing, write_holds, AtomicPlace, RegisterAct, plain, answer_to, value_after, after_acts, Parties, none_played, both_played, PlaysAndCounts, some, get_elem?, State, Played, AtomicTally, Content, AtomicAct, Heard}
use mathlib.Core.Option as maybe
use Rattle.running_atomic.specs.declared.script.AtomicScript.{AtomicScript}
use Rattle.running_atomic.specs.History.{content, both_heard, atomic_tally, both_tallies, no_acts}
use Rattle.running_atomic.specs.AtomicModel.{atomic_model, atomic_names}
use Rattle.running_atomic.specs.AtomicParties.{ActsAtOther, IsAtHigh, StandsAtRun}
pub use Rattle.running_atomic.specs.AtomicRule.{IsReading, IsWriting, IsSettled}
pub use Rattle.running_atomic.specs.HistoryKeeps.{StartsWith, AreMarks}
use Rattle.running_atomic.specs.AtomicRule.{value_of, act_in, history_in, each_once, data_of, IsRegister}

abbrev V : Type 0
V = View AtomicTally

-- the hold became this, by a write
abbrev pub now_holds : Held Content → V → V
now_holds h v = wrote v (atomic_tally h v.tally.heard)

-- an exchange by which a reader enters
pub record EntersRead (from : ℕ) (v : V) (found : ℕ) (w : V) : Type 0 where
  pub done : found ≡ from → (x : Content) × (w ≡ now_holds (Reading 0 x) v)
  pub failed : found ≢ from → w ≡ missed v from found

-- an exchange by which a writer enters
pub record EntersWrite (v : V) (found : ℕ) (w : V) : Type 0 where
  pub done : found ≡ 0 → (x : Content) × (w ≡ now_holds (Writing x x) v)
  pub failed : found ≢ 0 → w ≡ missed v 0 found

abbrev pub Leaves : V → V → Type 0
Leaves v w = w ≡ now_holds Free v

-- of what a hold knows of the data words
abbrev pub IfHeld : Held Content → (Content → Type 0) → Type 0
IfHeld (Reading n x) P = P x
IfHeld (Writing x found) P = P x
IfHeld other P = Unit {0}

abbrev pub IfWriting : Held Content → (Content → Content → Type 0) → Type 0
IfWriting (Writing x found) P = P x found
IfWriting other P = Unit {0}

abbrev pub ReadsLow : V → ℕ → V → Type 0
ReadsLow v found w = (w ≡ v) × IfHeld v.tally.hold (λ x. found ≡ x.low)

abbrev pub ReadsHigh : V → ℕ → V → Type 0
ReadsHigh v found w = (w ≡ v) × IfHeld v.tally.hold (λ x. found ≡ x.high)

abbrev pub StoresLow : V → ℕ → V → Type 0
StoresLow v new w = IfWriting v.tally.hold (λ x found. w ≡ now_holds (Writing (content new x.high) found) v)

-- One act more, which was answered so: after all that the pass had seen, and what others did since. With no other pass left nobody did.
pub record Acts {T : Type 0} (z : Arithmetic T) (opening : T) (a : RegisterAct T) (answer : Answer T) (v w : V) : Type 0 where
  pub before : List (RegisterAct T)
  pub answered : answer_to z a (after_acts z opening before) ≡ answer
  pub begins : StartsWith before (history_in z v.tally.heard)
  pub alone : IsWhole v.part → before ≡ history_in z v.tally.heard
  pub seen : history_in z w.tally.heard ≡ before ++ a ∷ []
  pub own : w.tally.heard.own ≡ one_more (length before) v.tally.heard.own
  pub marks : AreMarks w.tally.heard.own (history_in z w.tally.heard)
  pub part : w.part ≡ v.part

-- the act of a place, at a register of these words
abbrev pub ActsAt : {T : Type 0} → Arithmetic T → T → AtomicAct → Content → V → V → Type 0
ActsAt z opening a found v w = Acts z opening (act_in z a) (answer_to z (act_in z a) (value_of z found)) v w

-- the last access of a load
abbrev pub EndsLoad : {T : Type 0} → Arithmetic T → T → V → ℕ → V → Type 0
EndsLoad z opening v found w = (w.tally.hold ≡ v.tally.hold) × IfHeld v.tally.hold (λ x. (found ≡ x.high) × ActsAt z opening AtomicAct.Load x v w)

-- the last access of a call that stores
abbrev pub EndsStore : {T : Type 0} → Arithmetic T → T → AtomicAct → V → ℕ → V → Type 0
EndsStore z opening a v new w = IfWriting v.tally.hold (λ x found. (w.tally.hold ≡ Writing (content x.low new) (content x.low new)) × ActsAt z opening a found v w)

-- the last access of a call under a write hold that stores nothing
abbrev pub EndsUnchanged : {T : Type 0} → Arithmetic T → T → AtomicAct → V → V → Type 0
EndsUnchanged z opening a v w = (w.tally.hold ≡ v.tally.hold) × IfWriting v.tally.hold (λ x found. ActsAt z opening a found v w)

-- one hold stands
abbrev pub IsOn : {X : Type 0} → Held X → Type 0
IsOn (Reading n x) = n ≡ 0
IsOn (Writing x found) = Unit {0}
IsOn other = ⊥

-- where this is stored after the low word that is known, the value is what the act makes of it
abbrev pub IsRight : {T : Type 0} → Arithmetic T → AtomicAct → ℕ → Held Content → Type 0
IsRight z a new h = IfWriting h (λ x found. value_after z (act_in z a) (value_of z found) ≡ z.of_words x.low new)

-- the act leaves the value as it is wherever that is not the one compared with
abbrev pub KeepsOthers : {T : Type 0} → Arithmetic T → AtomicAct → T → Held Content → Type 0
KeepsOthers z a current h = IfWriting h (λ x found. z.same (value_of z x) current ≡ false → value_after z (act_in z a) (value_of z found) ≡ value_of z found)

-- The load of the high word of a call that compares. Where the value is the one compared with, nothing changed, and the call goes on; else
-- this is its last access.
abbrev pub ComparesHigh : {T : Type 0} → Arithmetic T → T → AtomicAct → T → V → ℕ → V → Type 0
ComparesHigh z opening a current v found w =
    IfWriting v.tally.hold (λ x old. (found ≡ x.high) × MatchBool (z.same (value_of z x) current) (w ≡ v) (EndsUnchanged z opening a v w))

-- The call that compares, whose act this is, is at its load of the high word, and has read the low one that its hold knows.
pub record IsComparing {T : Type 0} (z : Arithmetic T) (opening : T) (a : AtomicAct) (current : T) (h : Held Content) (p : Parties T) : Type 0 where
  pub call : Call T
  pub low : ℕ
  pub low_is : IfWriting h (λ x found. low ≡ x.low)
  pub at : IsAtHigh z opening call low p
  pub acts : ActsAtOther z call current
  pub is_act : act_in z a ≡ plain call

-- it stores: it is no `fetch_update` whose closure has chosen nothing
abbrev pub IsStoring : AtomicAct → Type 0
IsStoring (AtomicAct.FetchUpdate None) = ⊥
IsStoring other = Unit {0}

-- all of the history was seen, whose start the pass knew
pub record Settles {T : Type 0} (z : Arithmetic T) (opening : T) (v w : V) : Type 0 where
  pub knew : (a b : Heard) → v.tally.heard ≡ both_heard a b → StartsWith (history_in z w.tally.heard) (history_in z a) × StartsWith (history_in z w.tally.heard) (history_in z b)
  pub own : w.tally.heard.own ≡ v.tally.heard.own
  pub marks : AreMarks w.tally.heard.own (history_in z w.tally.heard)
  pub part : w.part ≡ v.part
  pub hold : w.tally.hold ≡ v.tally.hold

-- The acts of two passes are one's, which has seen one history that begins with what each had seen.
pub record Joins {T : Type 0} (z : Arithmetic T) (v u w : V) : Type 0 where
  pub begins : StartsWith (history_in z w.tally.heard) (history_in z v.tally.heard)
  pub begins_also : StartsWith (history_in z w.tally.heard) (history_in z u.tally.heard)
  pub own : w.tally.heard.own ≡ both_counts v.tally.heard.own u.tally.heard.own
  pub marks : AreMarks w.tally.heard.own (history_in z w.tally.heard)
  pub part : w.part ≡ together v.part u.part

-- the history is the own acts, and the value is the register's after it
pub record IsLast {T : Type 0} (z : Arithmetic T) (opening : T) (t : Heard) (value : T) : Type 0 where
  pub own : t.own ≡ each_once (history_in z t)
  pub value_is : value ≡ after_acts z opening (history_in z t)

-- what a pass of an atomic is in its model, and counts beside
abbrev pub PlayedAtomic : Type 0 → Type 0
PlayedAtomic T = Played AtomicScript (AtomicPlace T) T AtomicTally

-- what all passes know together
abbrev pub all_of : {T : Type 0} → List (View (PlayedAtomic T)) → PlayedAtomic T
all_of views = sum_of (none_played no_acts) (both_played both_tallies) views

-- the rule over all passes of an atomic: its words are those of a run of the model, in which the passes are parties, and the register's
abbrev pub AtomicRules : {T : Type 0} → Arithmetic T → T → List ℕ → List (maybe.Option (Unit {0})) → PlayedAtomic T → Type 0
AtomicRules z opening = PlaysAndCounts (atomic_model z opening) atomic_names (λ _ _ _. IsClosed z × IsValue z opening) (IsRegister z opening)

-- Whenever the rule holds there is one history: what each pass has seen begins it, each act in it is one pass's own, and while no write
-- hold stands the data words are the register after it. It is, act for act and in order, that of a run in which all passes are the parties.
pub record IsOneHistory {T : Type 0} (z : Arithmetic T) (opening : T) (s : State (Unit {0}) (View (PlayedAtomic T))) : Type 0 where
  pub history : List (RegisterAct T)
  pub begins : (i : ℕ) (v : View (PlayedAtomic T)) → get_elem? s.views i ≡ some v → StartsWith history (history_in z v.tally.counts.heard)
  pub own : (all_of s.views).counts.heard.own ≡ each_once history
  pub value_is : write_holds (all_of s.views).counts.hold ≡ 0 → value_of z (data_of s.words) ≡ after_acts z opening history
  pub in_run : StandsAtRun z opening (all_of s.views).parties history (after_acts z opening history)

abbrev pub OneHistory : {T : Type 0} → Arithmetic T → Type 0
OneHistory {T} z = (opening : T) (s : State (Unit {0}) (View (PlayedAtomic T))) → IsCounted (none_played no_acts) (both_played both_tallies) (AtomicRules z opening) s → IsOneHistory z opening s
