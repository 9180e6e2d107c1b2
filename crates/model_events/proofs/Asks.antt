-- When a wait closure is asked, from the step at each place.
use Rattle.model_events.proofs.Names.{eqb-true, eqb-false, nat_tests, ◌≡◌, ◌≤◌, ℕ, Bool, true, List, [], ◌∷◌, Option, Some, None, arith, MatchOption, Arithmetic, refused, within, outcome_of, Table, PendingCall, call_of, hold_of, IsPast, keeps_asking, spins_in, WhereAsked, SpinCount, SpinsNoMore, but_last_try, Waiting, WaitsAs, Act, Event, HoldKind, Patience}
use Rattle.model_events.proofs.Spins.{HasSpun}
use Rattle.model_events.proofs.Parties.{IsKept, IsAtPlace, each_call}

-- what is so of a call where it asks, so that it waits as it should
abbrev pub IsAskedAs : {T : Type 0} → Waiting T → PendingCall T → Act T → ℕ → Type 0
IsAskedAs w c act told = (w.spins c.call c.own ≡ 10000) × (w.refusing c.call c.own act ≡ Some told) × (keeps_asking (w.wait c.call c.own) ≡ true)

pub waits_first : {T : Type 0} (w : Waiting T) → WaitsAs {T = T} w []
waits_first w = record { asks = tt; spins = λ party. tt; tells = tt; stops = tt }

pub waits_as : {T : Type 0} (w : Waiting T) (past : List (Event T)) (e : Event T) → WhereAsked (IsAskedAs w) (call_of e.party past) e.act e.then → SpinsNoMore w.goes_on (e ∷ past) → WaitsAs w (e ∷ past)
waits_as w past e h1 h2 = grind (arith, nat_tests, eqb-true, eqb-false)

-- a refused call asks only after all its spins, and while it keeps on asking
pub refused_asks :
    {T P : Type 0} (in_vain : Act T → Bool) (wrap : Patience → P) (patience : Patience) (seen : ℕ) (c : PendingCall T) (act : Act T) (Q : PendingCall T → Act T → ℕ → Type 0) → HasSpun in_vain patience c.own →
    (spins_in in_vain c.own ≡ 10000 → keeps_asking c.own ≡ true → Q c act seen) → WhereAsked Q (Some c) act (outcome_of (within wrap (refused {T = T} patience seen)))
refused_asks in_vain wrap patience seen c act Q h1 h2 = grind (arith, nat_tests, eqb-true, eqb-false)

-- no call spins more often, where none does at its place
pub spins_no_more :
    {T P : Type 0} (z : Arithmetic T) (t : Table T P) (parties : ℕ) (At : P → PendingCall T → Option HoldKind → Type 0) (spins : SpinCount T) → IsKept t At →
    ((place : P) (c : PendingCall T) (hold : Option HoldKind) → At place c hold → spins c.call c.own ≤ 10000) → (past : List (Event T)) → IsPast z t parties past → SpinsNoMore spins past
spins_no_more {T} z t parties At spins kept bounded past run party = by_call (call_of party past) (each_call z t parties At kept past run party)
  where
    by_call : (pending : Option (PendingCall T)) → IsAtPlace t At pending (hold_of t party past) → MatchOption pending (Unit {0}) (λ c. spins c.call c.own ≤ 10000)
    by_call None at = tt
    by_call (Some c) at = bounded at.0 c (hold_of t party past) at.2

-- and so with the last try of a call that gives up
pub last_try_bounded : {T : Type 0} (own : List (Event T)) (spins : ℕ) → spins ≤ 10000 → but_last_try own spins ≤ 10000
last_try_bounded own spins h1 = grind (arith, nat_tests, eqb-true, eqb-false)

-- two things are kept at each place, where each of them is
pub both_kept :
    {T P : Type 0} (t : Table T P) (At Also : P → PendingCall T → Option HoldKind → Type 0) → IsKept t At → IsKept t Also → IsKept t (λ place c hold. At place c hold × Also place c hold)
both_kept t At Also h1 h2 = grind (arith, nat_tests, eqb-true, eqb-false)
