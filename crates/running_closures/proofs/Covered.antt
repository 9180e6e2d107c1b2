-- Whoever sleeps is counted, or a wake is under way for it.
use Rattle.std.proofs.Common.{◌≡◌, ◌+◌, ◌≤◌, List, [], ◌∷◌, arith}
use Rattle.running_closures.specs.Crowds.{Crowd, Step, Comes, Turns, Parks, Wakes, Calls, WakesParked, WakesBehind, WakesNobody, WakesAll, EndsParked, EndsBehind, IsNext, IsAfter, NoneSleepsUncounted}

record IsCovered (c : Crowd) : Type 0 where
  here : c.coming + c.parked ≤ c.counted
  all : c.calling ≡ 0 → c.coming + c.parked + c.behind ≤ c.counted + c.waking

next_covered : (step : Step) (b c : Crowd) → IsCovered b → IsNext step b c → IsCovered c
next_covered Comes b c was next = grind arith
next_covered Turns b c was next = grind arith
next_covered Parks b c was next = grind arith
next_covered Wakes b c was next = grind arith
next_covered Calls b c was next = grind arith
next_covered WakesParked b c was next = grind arith
next_covered WakesBehind b c was next = grind arith
next_covered WakesNobody b c was next = grind arith
next_covered WakesAll b c was next = grind arith
next_covered EndsParked b c was next = grind arith
next_covered EndsBehind b c was next = grind arith

covered : (steps : List Step) (c : Crowd) → IsAfter steps c → IsCovered c
covered [] c at = grind arith
covered (step ∷ steps) c at = next_covered step at.0 c (covered steps at.0 at.1) at.2

pub none_sleeps_uncounted : NoneSleepsUncounted
none_sleeps_uncounted steps c at none quiet = let is : IsCovered c = covered steps c at in grind arith
