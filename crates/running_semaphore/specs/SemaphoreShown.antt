-- What contracts see of a semaphore and its pass, and what a call changes in a pass.
use Rattle.std.specs.Prelude.{◌≡◌, ℕ, Bool, true, MatchBool, ◌+◌, ◌<◌, ◌≤◌, ◌%◌, ◌^◌, None}
use Rattle.running_semaphore.specs.Names.{Call, Answer, Then, SemaphorePlace, semaphore_model, WaitResult, Success, Interrupted, IsWhole, IsSamePass, part_of, sights_of, looked, wrote, HasLooked, LooksOnceOrMisses, HasSeen, HasOnlySeen, WasRefused, Played, Parties, all_of, HasCalled, IsAt, parties_of, counts_of, counted, HasMoved, Permits, SemaphoreScript, value_of}
use Rattle.running_passes.specs.declared.part.Part.{Part}
use Rattle.running_passes.specs.declared.pass.Pass.{Pass}
use Rattle.atomic_table.specs.Seated.{TableId}
use Rattle.running_model.specs.Stages.{IsPassOf, id_of, key_of}
use Rattle.running_model.specs.Asked.{AskedAfter}
use Rattle.model_events.specs.declared.WaitAction.{WaitAction}
use Rattle.std.specs.Borrow.{Bor}
use Rattle.std.specs.Fn.{Mut}
use Rattle.running_semaphore.specs.declared.Semaphore.{Semaphore}
use Rattle.running_semaphore.specs.SemaphoreSteps.{took}

-- the pass of a semaphore
abbrev pub SemPass : Type 0
SemPass = Pass (Played SemaphoreScript SemaphorePlace ℕ Permits)

abbrev pub IsSemPass : {A S : Type 0} → Semaphore A S → SemPass → Type 0
IsSemPass s p = IsPassOf s.stage p

-- this is its word, by its object and which of that object's words it is
abbrev pub IsItsWord : {A S : Type 0} → Semaphore A S → TableId → ℕ → Type 0
IsItsWord s object index = (object ≡ id_of s.stage) × (index ≡ 0)

-- the value that the semaphore was made with
abbrev pub initial_of : {A S : Type 0} → Semaphore A S → ℕ
initial_of s = key_of s.stage % 2 ^ 64

-- the initial value, if the pass was made with the semaphore, and all that its owner posted
abbrev pub given_of : SemPass → ℕ
given_of p = (counts_of p).given

-- how many permits its owner took
abbrev pub taken_of : SemPass → ℕ
taken_of p = (counts_of p).taken

-- the value that the pass's tally comes to, where no other pass has counted anything
abbrev pub worth_of : SemPass → ℕ
worth_of p = value_of (counts_of p)

-- the value at which no permit is taken
abbrev pub IsEmpty : ℕ → Type 0
IsEmpty word = word ≡ 0

-- What a `Wait` asked its wait closure, of this word, from wait on, and nothing beside: nothing where it took a permit by itself. Where no other
-- pass is left, it looked 10001 times before, and once for each question.
abbrev pub AskedForPermit : {F X : Type 0} → Mut F (Bor X × (Bor ℕ × Unit {0})) WaitAction → X → F → F → Bool → SemPass → SemPass → Type 0
AskedForPermit g shown wait after took p q = AskedAfter g shown IsEmpty 10001 wait after took (IsWhole (part_of p)) (sights_of p).count (sights_of q).count

-- One permit was taken from the value seen last, which had one. Where no other pass is left, that is what the tally came to.
pub record Takes (part : Part) (t u : Permits) (last : ℕ) : Type 0 where
  pub taken : u.taken ≡ t.taken + 1
  pub given : u.given ≡ t.given
  pub some : 0 < last
  pub alone : IsWhole part → last ≡ value_of t

-- one permit was taken, and nothing else changed but what was seen on the way
abbrev pub HasTaken : SemPass → SemPass → Type 0
HasTaken = HasMoved Takes

-- one look saw what the pass's tally came to, one permit was taken from it, and nothing else changed
abbrev pub HasTakenAtOnce : SemPass → SemPass → Type 0
HasTakenAtOnce p q = IsSamePass p q × (counted q ≡ wrote (looked (counted p) (worth_of p)) (took (counts_of p)))

-- Within a call that wants a permit: the pass saw this last, by its first look or by an exchange that missed, and nothing else changed.
pub record SawLast (seen : ℕ) (p q : SemPass) : Type 0 where
  pub stayed : HasOnlySeen p q
  pub last : HasLooked (λ n. n ≡ seen) 1 (sights_of p) (sights_of q)
  pub fresh : (sights_of q).fresh ≡ true
  pub looks : LooksOnceOrMisses (sights_of p) (sights_of q)
  pub once : IsWhole (part_of p) → counted q ≡ looked (counted p) seen
  pub exact : IsWhole (part_of p) → seen ≡ worth_of p

-- it took a permit, or saw that there was none
pub record TookOne (p q : SemPass) : Type 0 where
  pub taken : HasTaken p q
  pub looks : LooksOnceOrMisses (sights_of p) (sights_of q)
  pub once : IsWhole (part_of p) → HasTakenAtOnce p q
  pub some : IsWhole (part_of p) → 0 < worth_of p

pub record SawNone (p q : SemPass) : Type 0 where
  pub refused : WasRefused IsEmpty 1 p q
  pub looks : LooksOnceOrMisses (sights_of p) (sights_of q)
  pub once : IsWhole (part_of p) → HasSeen 0 p q
  pub none : IsWhole (part_of p) → worth_of p ≡ 0

-- whichever pass it was that had seen this last, it then took one, or saw that there was none
abbrev pub TookOrSawNone : ℕ → Bool → SemPass → SemPass → Type 0
TookOrSawNone seen took q r = (p : SemPass) → SawLast seen p q → MatchBool took (TookOne p r) (SawNone p r)

-- So much was given and taken, and nothing else changed but what was seen on the way. A helper, a loop and a closure carry this one fact.
pub record HasCounted (more less : ℕ) (p q : SemPass) : Type 0 where
  pub same : IsSamePass p q
  pub given : given_of q ≡ given_of p + more
  pub taken : taken_of q ≡ taken_of p + less
  pub part : part_of q ≡ part_of p
  pub saw : (sights_of p).count ≤ (sights_of q).count

-- The pass as a party of the model.

-- how the model answers a call that is answered so
abbrev pub answer_of : {H : Type 0} → WaitResult H → Answer ℕ
answer_of (Success h) = Answer.Success
answer_of Interrupted = Answer.Interrupted

module _ (initial : ℕ) where
  -- There is a run of the model, which keeps the law of a semaphore of this initial value, in which a party of the pass has just been
  -- answered so by this call. It is the one call that the pass has made since, as a party that is new.
  abbrev pub HasPlayed : Call ℕ → Answer ℕ → SemPass → SemPass → Type 0
  HasPlayed call answer p q = HasCalled (semaphore_model initial) call answer None (parties_of p) (parties_of q)

  -- As a party that is new the pass has begun a `Post` of so many and added them, in a run that keeps the semaphore's law; and is to wake one.
  abbrev pub Posts : ℕ → Parties ℕ → Parties ℕ → Type 0
  Posts value p q = IsAt (semaphore_model initial) (Call.Post value) SemaphorePlace.Wake Then.GoesOn None (all_of p) q

  abbrev pub HasPlayedPost : ℕ → SemPass → SemPass → Type 0
  HasPlayedPost value p q = Posts value (parties_of p) (parties_of q)

  -- it has made a `Wait` that took a permit, and then a `Post` of one
  abbrev pub HasPlayedBoth : SemPass → SemPass → Type 0
  HasPlayedBoth p q = (held : Parties ℕ) × HasCalled (semaphore_model initial) Call.Wait Answer.Success None (parties_of p) held × Posts 1 held (parties_of q)
