-- What contracts see of a barrier and its pass, and what a call changes in a pass.
use Rattle.std.specs.Prelude.{◌≡◌, ℕ, ◌+◌, ◌<◌, ◌≤◌, ◌%◌, ◌^◌, ◌⊎◌, List, None, length}
use Rattle.std.specs.Borrow.{Bor}
use Rattle.std.specs.Fn.{Mut}
use Rattle.std.specs.List.{FoldsTo}
use Rattle.running_model.specs.Asked.{AskedOnce}
use Rattle.running_barrier.specs.Names.{sum, Call, Answer, Then, BarrierPlace, epoch_of, count_of, opened, barrier_model, IsWhole, seen, stale, IsSamePass, part_of, sights_of, Played, all_of, HasCalled, IsAt, parties_of, tally_of, Rounds, BarrierScript, one_more, Pass, IsPassOf, key_of}
use Rattle.atomic_table.specs.Seated.{TableId}
use Rattle.running_model.specs.Stages.{id_of}
use Rattle.running_barrier.specs.declared.Barrier.{Barrier}
use Rattle.running_barrier.specs.BarrierSteps.{Arrives}

-- the pass of a barrier
abbrev pub BarrierPass : Type 0
BarrierPass = Pass (Played BarrierScript BarrierPlace ℕ Rounds)

module _ {A S : Type 0} where
  abbrev pub IsBarrierPass : Barrier A S → BarrierPass → Type 0
  IsBarrierPass b p = IsPassOf b.stage p

  -- this is its word, by its object and which of that object's words it is
  abbrev pub IsItsWord : Barrier A S → TableId → ℕ → Type 0
  IsItsWord b object index = (object ≡ id_of b.stage) × (index ≡ 0)

  -- how many it was made for
  abbrev pub waiters_of : Barrier A S → ℕ
  waiters_of b = key_of b.stage % 2 ^ 32

-- how often the pass's owner arrived in each round, the first round first
abbrev pub counts_of : BarrierPass → List ℕ
counts_of p = (tally_of p).arrivals

-- how often its owner arrived
abbrev pub arrivals_of : BarrierPass → ℕ
arrivals_of p = sum (counts_of p)

-- each round below this one is known to be open
abbrev pub reached_of : BarrierPass → ℕ
reached_of p = (tally_of p).reached

-- how many rounds its owner opened
abbrev pub opened_of : BarrierPass → ℕ
opened_of p = (tally_of p).opened

-- the word after an arrival, where there is room for one: the next epoch if it fills the round, else one more has come
pub record IsNextWord (n from to : ℕ) : Type 0 where
  pub room : count_of from < n
  pub last : count_of from + 1 ≡ n → to ≡ opened from
  pub early : count_of from + 1 < n → to ≡ from + 1

-- an arrival was made from this value, which was seen last, and nothing else changed but what was seen
pub record HasArrived (n from : ℕ) (p q : BarrierPass) : Type 0 where
  pub same : IsSamePass p q
  pub part : part_of q ≡ part_of p
  pub room : count_of from < n
  pub round : ℕ
  pub known : reached_of p ≤ round
  pub epoch : epoch_of from ≡ round % 2 ^ 32
  pub arrives : Arrives n from round (tally_of p) (tally_of q)
  pub saw : (sights_of p).count ≤ (sights_of q).count
  pub last : (sights_of q).last ≡ from
  pub alone : IsWhole (part_of p) → round ≡ opened_of p

-- nothing was counted: the pass has looked, and may know more rounds to be open
pub record HasStayed (p q : BarrierPass) : Type 0 where
  pub same : IsSamePass p q
  pub part : part_of q ≡ part_of p
  pub arrivals : counts_of q ≡ counts_of p
  pub opened : opened_of q ≡ opened_of p
  pub known : reached_of p ≤ reached_of q
  pub saw : (sights_of p).count ≤ (sights_of q).count

-- The pass has one arrival more, in a round that is now known to be open, and was not before; it may have opened the next. Nothing
-- else changed but what was seen. Where no other pass is left, that round is the one after those that it opened.
pub record HasPassed (p q : BarrierPass) : Type 0 where
  pub same : IsSamePass p q
  pub part : part_of q ≡ part_of p
  pub round : ℕ
  pub known : reached_of p ≤ round
  pub is_open : round < reached_of q
  pub arrivals : counts_of q ≡ one_more round (counts_of p)
  pub counted : arrivals_of q ≡ arrivals_of p + 1
  pub opened : (opened_of q ≡ opened_of p) ⊎ (opened_of q ≡ opened_of p + 1)
  pub saw : (sights_of p).count < (sights_of q).count
  pub alone : IsWhole (part_of p) → round ≡ opened_of p

-- the word was seen once before the arrival, and never after
abbrev pub HasLookedOnce : BarrierPass → BarrierPass → Type 0
HasLookedOnce p q = sights_of q ≡ stale (seen (sights_of p) (sights_of q).last)

-- So many rounds were passed, and nothing else changed but what was seen and opened on the way. A helper, a loop and a closure carry
-- this one fact.
pub record HasWaited (times : ℕ) (p q : BarrierPass) : Type 0 where
  pub same : IsSamePass p q
  pub part : part_of q ≡ part_of p
  pub arrivals : arrivals_of q ≡ arrivals_of p + times
  pub known : reached_of p ≤ reached_of q
  pub opened : opened_of p ≤ opened_of q
  pub saw : (sights_of p).count ≤ (sights_of q).count

module _ {F X : Type 0} (g : Mut F (Bor X × (Bor ℕ × Unit {0})) (Unit {0})) (shown : X) (epoch : ℕ) where
  -- These calls of the wait closure, and no other, led it from f to after. Each was told a word of this epoch, and there was one look for each.
  pub record AskedEach (f after : F) (before now : ℕ) : Type 0 where
    pub told : List ℕ
    pub looks : now ≡ before + length told
    pub led : FoldsTo {P = F} {A = ℕ} (λ p n q. (epoch_of n ≡ epoch) × AskedOnce g shown p n tt q) f told after

  -- so, once the call had looked by itself
  abbrev pub AskedLater : F → F → ℕ → ℕ → Type 0
  AskedLater f after before now = (stood : ℕ) × (stood ≤ before + 10001) × AskedEach f after stood now

-- The pass as a party of the model, of a barrier for n.

module _ (n : ℕ) where
  -- There is a run of the model, which keeps the law of a barrier for n, in which a party of the pass has just been answered so by a
  -- `Wait`. It is the one call that the pass has made since, as a party that is new.
  abbrev pub HasPlayed : Answer ℕ → BarrierPass → BarrierPass → Type 0
  HasPlayed answer p q = HasCalled (barrier_model n) Call.Wait answer None (parties_of p) (parties_of q)

  -- As a party that is new the pass has begun a `Wait` and filled a round by its arrival, in a run that keeps the barrier's law; and is
  -- to wake all.
  abbrev pub HasFilled : BarrierPass → BarrierPass → Type 0
  HasFilled p q = IsAt (barrier_model n) Call.Wait BarrierPlace.Wake Then.GoesOn None (all_of (parties_of p)) (parties_of q)
