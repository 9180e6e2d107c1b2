-- What contracts see of a once and its pass, and what a call changes in a pass.
use Rattle.std.specs.Prelude.{◌≡◌, ◌≢◌, ℕ, ◌<◌, ◌≤◌, ◌⊎◌, true, None}
use Rattle.running_once.specs.Names.{Call, Answer, OncePlace, View, IsSamePass, part_of, sights_of, looked, wrote, Played, Parties, HasCalled, parties_of, counts_of, counted, Part, Sights, Pass, IsPassOf, Runs, OnceScript}
use Rattle.running_once.specs.Once.{once_model, learns, began, ended}
use Rattle.running_once.specs.declared.Once.{Once}
use Rattle.running_once.specs.declared.OncePass.{OncePass}

-- the pass inside
abbrev pub PlayedPass : Type 0
PlayedPass = Pass (Played OnceScript OncePlace ℕ Runs)

abbrev pub pass_in : OncePass → PlayedPass
pass_in p = p.pass

abbrev pub IsOncePass : {A : Type 0} → Once A → OncePass → Type 0
IsOncePass o p = IsPassOf o.stage (pass_in p)

-- what the pass knows
abbrev pub known_by : OncePass → View Runs
known_by p = counted (pass_in p)

-- the parties of the model that it is
abbrev pub parties_of_once : OncePass → Parties ℕ
parties_of_once p = parties_of (pass_in p)

abbrev pub part_of_once : OncePass → Part
part_of_once p = part_of (pass_in p)

abbrev pub sights_of_once : OncePass → Sights
sights_of_once p = sights_of (pass_in p)

-- how many closures its owner ran to their end
abbrev pub ended_of : OncePass → ℕ
ended_of p = (counts_of (pass_in p)).ended

-- it knows that a closure has ended
abbrev pub IsComplete : OncePass → Type 0
IsComplete p = (counts_of (pass_in p)).complete ≡ true

-- the word was seen once, and nothing else changed but that the pass may know of the end
abbrev pub HasSeenOnce : OncePass → OncePass → Type 0
HasSeenOnce p q = IsSamePass (pass_in p) (pass_in q) × (known_by q ≡ learns (sights_of_once q).last (looked (known_by p) (sights_of_once q).last))

-- the word was seen once, a closure began and ended, and nothing else changed
abbrev pub HasRun : OncePass → OncePass → Type 0
HasRun p q = IsSamePass (pass_in p) (pass_in q) × (known_by q ≡ wrote (looked (known_by p) (sights_of_once q).last) (ended (counts_of (pass_in p))))

-- The pass knows that a closure has ended. It ran none, and has looked; or it ran one, which is the first.
pub record HasCompleted (p q : OncePass) : Type 0 where
  pub same : IsSamePass (pass_in p) (pass_in q)
  pub part : part_of_once q ≡ part_of_once p
  pub complete : IsComplete q
  pub once : (ended_of q ≡ ended_of p) ⊎ ((ended_of p ≡ 0) × HasRun p q)
  pub saw : (sights_of_once p).count < (sights_of_once q).count

-- within a call: a closure began, which is the first
pub record HasBegun (p q : PlayedPass) : Type 0 where
  pub same : IsSamePass p q
  pub first : (counts_of p).ended ≡ 0
  pub begins : counted q ≡ wrote (counted p) (began (counts_of p))

-- within a call: the word was seen once, and nothing else changed but that the pass may know of the end
abbrev pub SeesOnceWithin : PlayedPass → PlayedPass → Type 0
SeesOnceWithin p q = IsSamePass p q × (counted q ≡ learns (sights_of q).last (looked (counted p) (sights_of q).last))

-- within a call, the same as `HasRun`, and as `HasCompleted`
abbrev pub RunsWithin : PlayedPass → PlayedPass → Type 0
RunsWithin p q = IsSamePass p q × (counted q ≡ wrote (looked (counted p) (sights_of q).last) (ended (counts_of p)))

pub record CompletesWithin (p q : PlayedPass) : Type 0 where
  pub same : IsSamePass p q
  pub part : part_of q ≡ part_of p
  pub complete : (counts_of q).complete ≡ true
  pub once : ((counts_of q).ended ≡ (counts_of p).ended) ⊎ (((counts_of p).ended ≡ 0) × RunsWithin p q)
  pub saw : (sights_of p).count < (sights_of q).count

-- the values at which no closure begins
abbrev pub IsTaken : ℕ → Type 0
IsTaken word = word ≢ 0

-- within a call: nothing was counted, and nothing changed but what was seen
pub record HasOnlyWaited (p q : PlayedPass) : Type 0 where
  pub same : IsSamePass p q
  pub part : part_of q ≡ part_of p
  pub running : (counts_of q).running ≡ (counts_of p).running
  pub ended : (counts_of q).ended ≡ (counts_of p).ended
  pub saw : (sights_of p).count ≤ (sights_of q).count

-- The pass as a party of the model: there is a run of it, which keeps the once's law, in which a party of the pass has just been answered
-- so by this call. It is the one call that the pass has made since, as a party that is new.
abbrev pub HasPlayed : Call ℕ → Answer ℕ → OncePass → OncePass → Type 0
HasPlayed call answer p q = HasCalled once_model call answer None (parties_of_once p) (parties_of_once q)
