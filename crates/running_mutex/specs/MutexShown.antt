-- What contracts see of a mutex, its pass and its hold, and what a call changes in a pass.
use Rattle.std.specs.Prelude.{◌≡◌, ◌≢◌, ◌⊎◌, ℕ, ◌+◌, ◌≤◌, Bool, true, Option, Some, MatchBool}
use Rattle.running_mutex.specs.Names.{Bor, WaitAction, GName, Call, Answer, HoldKind, MutexPlace, mutex_model, Part, Pass, IsWhole, IsSamePass, part_of, sights_of, Played, Parties, Coming, HasCalled, Went, parties_of, counts_of, counted, HasMoved, Holds, MutexScript, RattleType, u64, IsPassOf}
use Rattle.running_model.specs.Asked.{AskedAfter}
use Rattle.running_model.specs.Stages.{id_of}
use Rattle.atomic_table.specs.Seated.{TableId}
use Rattle.std.specs.Fn.{Mut}
use Rattle.running_passes.specs.contracts.pass.Pass.{the_row}
use Rattle.running_model.specs.contracts.played.Played as played_row
use Rattle.running_mutex.specs.contracts.script.MutexScript as script_row
use Rattle.model_mutex.specs.contracts.MutexPlace as place_row
use Rattle.running_for_one.specs.contracts.Holds as holds_row
use Rattle.running_mutex.specs.declared.MutexHold.{MutexHold}
use Rattle.running_mutex.specs.declared.Mutex.{Mutex}
use Rattle.running_mutex.specs.MutexParties.{Unlocks}
use Rattle.running_mutex.specs.MutexSteps.{locked, unlocked, saw_locked}

-- the pass of a mutex
abbrev pub MutexPass : Type 0
MutexPass = Pass (Played MutexScript MutexPlace ℕ Holds)

-- its type, as the checker knows of what is lent
abbrev pub mutex_row : RattleType
mutex_row = the_row (played_row.the_row script_row.the_row place_row.the_row u64 holds_row.the_row)

abbrev pub IsMutexPass : {A S : Type 0} → Mutex A S → MutexPass → Type 0
IsMutexPass m p = IsPassOf m.stage p

-- this is its word, by its object and which of that object's words it is
abbrev pub IsItsWord : {A S : Type 0} → Mutex A S → TableId → ℕ → Type 0
IsItsWord m object index = (object ≡ id_of m.stage) × (index ≡ 0)

-- how many of the pass's holds stand: 0 or 1
abbrev pub holds_of : MutexPass → ℕ
holds_of p = (counts_of p).holds

-- how often a lock was granted to it
abbrev pub grants_of : MutexPass → ℕ
grants_of p = (counts_of p).grants

-- the pass that a hold borrows, and which borrow of it that is
abbrev pub pass_of : MutexHold → MutexPass
pass_of h = h.pass.now

abbrev pub borrow_of : MutexHold → GName
borrow_of h = h.pass.ghost_name

-- the value at which no lock enters
abbrev pub IsLocked : ℕ → Type 0
IsLocked word = word ≡ 1

-- the hold, which was off, is on by one more grant, and nothing else changed
abbrev pub HasLocked : MutexPass → MutexPass → Type 0
HasLocked p q = IsSamePass p q × (holds_of p ≡ 0) × (counted q ≡ locked (counted p))

-- the mutex was seen locked once, and nothing else changed
abbrev pub HasSeenLocked : MutexPass → MutexPass → Type 0
HasSeenLocked p q = IsSamePass p q × (counted q ≡ saw_locked (counted p))

-- the hold, which was on, is off, and nothing else changed
abbrev pub HasUnlocked : MutexPass → MutexPass → Type 0
HasUnlocked p q = IsSamePass p q × (holds_of p ≡ 1) × (counted q ≡ unlocked (counted p))

-- the pass is whole, so that no other is left, and its hold is off
abbrev pub IsAlone : MutexPass → Type 0
IsAlone p = IsWhole (part_of p) × (holds_of p ≡ 0)

-- the hold, which was off, is on by one more grant
pub record Enters (part : Part) (t u : Holds) (last : ℕ) : Type 0 where
  pub off : t.holds ≡ 0
  pub on : u.holds ≡ 1
  pub grants : u.grants ≡ t.grants + 1

-- the hold was off and is on, and nothing else changed but what was seen on the way
abbrev pub HasEntered : MutexPass → MutexPass → Type 0
HasEntered = HasMoved Enters

-- What a `Lock` asked its wait closure, of such a word, from wait on, and nothing beside: nothing where it locked by itself. It looked 10001 times
-- before, and once for each question.
abbrev pub HasAskedToLock : {F X : Type 0} → Mut F (Bor X × (Bor ℕ × Unit {0})) WaitAction → (X → Type 0) → F → F → Bool → MutexPass → MutexPass → Type 0
HasAskedToLock {X = X} g IsOf wait after locked p q =
    ((locked ≡ true) × (wait ≡ after)) ⊎ ((word : X) × IsOf word × AskedAfter g word IsLocked 10001 wait after locked (Unit {0}) (sights_of p).count (sights_of q).count)

-- The hold is as it was. On the way the pass may have been granted and unlocked, and have seen the mutex.
pub record HasStayed (p q : MutexPass) : Type 0 where
  pub same : IsSamePass p q
  pub holds : holds_of q ≡ holds_of p
  pub part : part_of q ≡ part_of p
  pub grants : grants_of p ≤ grants_of q
  pub saw : (sights_of p).count ≤ (sights_of q).count

-- The pass as a party of the model.

-- There is a run of the model, which keeps the mutex's law, in which a party of the pass has just been answered so by this call. It is
-- the one call that the pass has made since, as a party that is new; and it has this hold now.
abbrev pub HasPlayed : Call ℕ → Answer ℕ → Option HoldKind → MutexPass → MutexPass → Type 0
HasPlayed call answer hold p q = HasCalled mutex_model call answer hold (parties_of p) (parties_of q)

-- so has the pass
abbrev pub HasPlayedUnlock : MutexPass → MutexPass → Type 0
HasPlayedUnlock p q = Unlocks (parties_of p) (parties_of q)

-- it has made a `Lock` that was granted, and then, as that party, an `Unlock`
abbrev pub HasPlayedBoth : MutexPass → MutexPass → Type 0
HasPlayedBoth p q = (held : Parties ℕ) × HasCalled mutex_model Call.Lock Answer.Success (Some HoldKind.Write) (parties_of p) held × Unlocks held (parties_of q)

-- an exchange of 0 for 1 that the table has, to which the pass came so, found the mutex free, or not
abbrev pub HasTried : Coming ℕ → Bool → MutexPass → MutexPass → Type 0
HasTried coming free p q = (found : ℕ) × MatchBool free (found ≡ 0) (found ≢ 0) × Went mutex_model coming (parties_of p) found (parties_of q)
