-- What holds whenever the rule of a barrier does, and what a step changes in a pass.
use Rattle.std.specs.Prelude.{◌≡◌, ◌≢◌, ℕ, ◌+◌, ◌%◌, ◌^◌, ◌<◌, ◌≤◌, [], ◌∷◌, slice_index}
use Rattle.running_barrier.specs.Names.{sum, Word, BarrierPlace, epoch_of, count_of, barrier_model, View, IsWhole, total, stale, view_of, looked, missed, sum_of, IsCounted, Played, none_played, both_played, PlaysAndCounts, IsOfARun, Rounds, BarrierScript, one_more, in_round, no_rounds, both_rounds, reaching, word_of, AreRoundsIn, some, get_elem?, State}

-- what the pass of a barrier knows
abbrev pub BarrierView : Type 0
BarrierView = View (Played BarrierScript BarrierPlace ℕ Rounds)

-- the rule of a barrier for n holds
abbrev pub IsRuled : ℕ → State (Unit {0}) BarrierView → Type 0
IsRuled n s = IsCounted (none_played no_rounds) (both_played both_rounds) (PlaysAndCounts (barrier_model n) (Word.State ∷ []) (λ _ _ _. Unit {0}) (AreRoundsIn n)) s

-- whenever it does, all passes are the parties of a run, and arrived in each round as often as calls did in it
abbrev pub ArrivalsAreOfARun : Type 0
ArrivalsAreOfARun = (n : ℕ) (s : State (Unit {0}) BarrierView) → IsRuled n s → IsOfARun (barrier_model n) (AreRoundsIn n) (sum_of (none_played no_rounds) (both_played both_rounds) s.views)

-- and a round that a pass knows to be open has n arrivals of all passes
abbrev pub OpenRoundsAreFull : Type 0
OpenRoundsAreFull = (n : ℕ) (s : State (Unit {0}) BarrierView) → IsRuled n s → (i : ℕ) (v : BarrierView) → get_elem? s.views i ≡ some v
    → (round : ℕ) → round < v.tally.counts.reached → total (λ u. in_round round u.tally.counts.arrivals) s.views ≡ n

-- and the word is what they counted together come to: the rounds that they opened, modulo 2 ^ 32, and the arrivals of the next one
abbrev pub WordCountsArrivals : Type 0
WordCountsArrivals = (n : ℕ) (s : State (Unit {0}) BarrierView) → IsRuled n s → slice_index s.words 0 ≡ word_of n (sum_of (none_played no_rounds) (both_played both_rounds) s.views).counts

-- so many rounds are known to be open
abbrev pub reaches : ℕ → View Rounds → View Rounds
reaches round v = view_of v.part v.sights (reaching round v.tally)

-- What the word says, if it is this while so many rounds are open. Where no other pass is left, it is what this one did.
pub record Says (n : ℕ) (v : View Rounds) (found round : ℕ) : Type 0 where
  pub known : v.tally.reached ≤ round
  pub epoch : epoch_of found ≡ round % 2 ^ 32
  pub filling : 0 < n → count_of found < n
  pub never : n ≡ 0 → (found ≡ 0) × (round ≡ 0)
  pub alone : IsWhole v.part → (round ≡ v.tally.opened) × (found ≡ word_of n v.tally)

-- the pass opened all rounds that it knows to be open, and has all their arrivals
pub record MadeAll (n : ℕ) (t : Rounds) : Type 0 where
  pub opened : t.reached ≡ t.opened
  pub full : (round : ℕ) → round < t.reached → in_round round t.arrivals ≡ n

-- where no other pass is left, this one did all that was done
abbrev pub HasAll : ℕ → View Rounds → Type 0
HasAll n v = IsWhole v.part → MadeAll n v.tally

-- a load: all rounds that are open are now known to be
pub record Loaded (n : ℕ) (v : View Rounds) (found : ℕ) (w : View Rounds) : Type 0 where
  pub round : ℕ
  pub says : Says n v found round
  pub saw : w ≡ reaches round (looked v found)
  pub has_all : HasAll n w

-- an arrival in this round, where the word was `from`: it fills the round, which opens the next, or it does not
pub record Arrives (n from round : ℕ) (t u : Rounds) : Type 0 where
  pub arrivals : u.arrivals ≡ one_more round t.arrivals
  pub counted : sum u.arrivals ≡ sum t.arrivals + 1
  pub last : count_of from + 1 ≡ n → (u.reached ≡ round + 1) × (u.opened ≡ t.opened + 1)
  pub early : count_of from + 1 ≢ n → (u.reached ≡ round) × (u.opened ≡ t.opened)

-- an exchange of a value for the one after an arrival: the pass arrived, or saw another value
pub record Exchanged (n from : ℕ) (v : View Rounds) (found : ℕ) (w : View Rounds) : Type 0 where
  pub round : ℕ
  pub says : Says n v found round
  pub done : found ≡ from → Arrives n from round v.tally w.tally × (w.sights ≡ stale v.sights) × (w.part ≡ v.part)
  pub failed : found ≢ from → w ≡ reaches round (missed v from found)
  pub has_all : HasAll n w
