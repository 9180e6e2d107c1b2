-- The event count as a machine: how many stand where, and the steps of those that sleep and of those that wake.
use Rattle.std.specs.Prelude.{ℕ, ◌≡◌, ◌+◌, ◌-◌, ◌<◌, ◌≤◌, List, [], ◌∷◌}

pub record Crowd : Type 0 where
  -- the count, as the word has it
  pub counted : ℕ
  -- have taken the epoch that stands now, and have not parked
  pub coming : ℕ
  -- sleep on it
  pub parked : ℕ
  -- sleep on an epoch before it
  pub behind : ℕ
  -- wakes of one are under way: they have counted one out, and not yet asked the system
  pub waking : ℕ
  -- wakes of all, likewise
  pub calling : ℕ

pub data Step : Type 0 where
  -- one counts itself in, and takes the epoch
  Comes : Step
  -- one that has looked counts itself out, at the epoch that it took
  Turns : Step
  -- one parks, at the epoch that it took
  Parks : Step
  -- a wake of one counts one out, and moves the epoch on: who had taken it and not parked does not sleep then
  Wakes : Step
  -- a wake of all, likewise
  Calls : Step
  -- the system wakes one, on whichever epoch it sleeps, or nobody where none sleeps
  WakesParked : Step
  WakesBehind : Step
  WakesNobody : Step
  -- it wakes all
  WakesAll : Step
  -- a sleep ends by itself, or by its deadline
  EndsParked : Step
  EndsBehind : Step

-- so many stand there
abbrev pub IsCrowd : Crowd → ℕ → ℕ → ℕ → ℕ → ℕ → ℕ → Type 0
IsCrowd c counted coming parked behind waking calling = (c.counted ≡ counted) × (c.coming ≡ coming) × (c.parked ≡ parked) × (c.behind ≡ behind) × (c.waking ≡ waking) × (c.calling ≡ calling)

-- the step leads from b to c
abbrev pub IsNext : Step → Crowd → Crowd → Type 0
IsNext Comes b c = IsCrowd c (b.counted + 1) (b.coming + 1) b.parked b.behind b.waking b.calling
IsNext Turns b c = (0 < b.coming) × IsCrowd c (b.counted - 1) (b.coming - 1) b.parked b.behind b.waking b.calling
IsNext Parks b c = (0 < b.coming) × IsCrowd c b.counted (b.coming - 1) (b.parked + 1) b.behind b.waking b.calling
IsNext Wakes b c = (0 < b.counted) × IsCrowd c (b.counted - 1) 0 0 (b.behind + b.parked) (b.waking + 1) b.calling
IsNext Calls b c = (0 < b.counted) × IsCrowd c 0 0 0 (b.behind + b.parked) b.waking (b.calling + 1)
IsNext WakesParked b c = (0 < b.waking) × (0 < b.parked) × IsCrowd c b.counted b.coming (b.parked - 1) b.behind (b.waking - 1) b.calling
IsNext WakesBehind b c = (0 < b.waking) × (0 < b.behind) × IsCrowd c b.counted b.coming b.parked (b.behind - 1) (b.waking - 1) b.calling
IsNext WakesNobody b c = (0 < b.waking) × (b.parked ≡ 0) × (b.behind ≡ 0) × IsCrowd c b.counted b.coming 0 0 (b.waking - 1) b.calling
IsNext WakesAll b c = (0 < b.calling) × IsCrowd c b.counted b.coming 0 0 b.waking (b.calling - 1)
IsNext EndsParked b c = (0 < b.parked) × IsCrowd c b.counted b.coming (b.parked - 1) b.behind b.waking b.calling
IsNext EndsBehind b c = (0 < b.behind) × IsCrowd c b.counted b.coming b.parked (b.behind - 1) b.waking b.calling

-- so many stand there after these steps, newest first, of which there was nobody before
abbrev pub IsAfter : List Step → Crowd → Type 0
IsAfter [] c = IsCrowd c 0 0 0 0 0 0
IsAfter (step ∷ steps) c = (before : Crowd) × IsAfter steps before × IsNext step before c

-- Whoever sleeps is counted, or a wake is under way for it: where the count is 0 none is coming, and each that sleeps has a wake under way.
abbrev pub NoneSleepsUncounted : Type 0
NoneSleepsUncounted = (steps : List Step) (c : Crowd) → IsAfter steps c → c.counted ≡ 0 → c.calling ≡ 0 → (c.coming ≡ 0) × (c.parked + c.behind ≤ c.waking)
