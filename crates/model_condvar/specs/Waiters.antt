-- Who waits at a condition variable: the `Wait` calls between their add to the waiter count and their subtraction from it.
use Rattle.std.specs.Prelude.{◌≡◌, ℕ, ◌+◌, ◌%◌, ◌^◌, ◌==◌, ◌&&◌, Bool, true, false, List, [], ◌∷◌, length, Option, Some, None, if◌then◌else◌}
use Rattle.model_condvar.specs.Names.{Word, Call, Act, Event, PendingCall, call_of, word_in, acts_in}
use Rattle.model_condvar.specs.Table.{condvar_table}

-- an act that changes the waiter count
abbrev pub is_count : {T : Type 0} → Act T → Bool
is_count (Act.Add Word.Waiters old put) = true
is_count act = false

-- how often a call has changed it: a `Wait` adds itself, and later subtracts itself
abbrev pub counts_in : {T : Type 0} → List (Event T) → ℕ
counts_in own = acts_in is_count own

-- the events of a call since it last changed it; all, where it has not
abbrev pub since_count : {T : Type 0} → List (Event T) → List (Event T)
since_count [] = []
since_count (e ∷ own) = if is_count e.act then [] else e ∷ since_count own

abbrev pub is_wait : {T : Type 0} → Call T → Bool
is_wait Call.Wait = true
is_wait call = false

-- a `Wait` that has added itself, and has not subtracted itself
abbrev pub is_counted : {T : Type 0} → Option (PendingCall T) → Bool
is_counted None = false
is_counted (Some c) = is_wait c.call && (counts_in c.own == 1)

abbrev pub without : ℕ → List ℕ → List ℕ
without party [] = []
without party (q ∷ parties) = if q == party then without party parties else q ∷ without party parties

abbrev pub times : ℕ → List ℕ → ℕ
times party [] = 0
times party (q ∷ parties) = (if q == party then 1 else 0) + times party parties

-- the parties that wait
abbrev pub waiting_after : {T : Type 0} → List (Event T) → List ℕ
waiting_after [] = []
waiting_after (e ∷ past) =
    if is_count e.act
    then (if is_counted (call_of e.party past) then without e.party (waiting_after past) else e.party ∷ waiting_after past)
    else waiting_after past

pub record CountsWaiters {T : Type 0} (past : List (Event T)) : Type 0 where
  -- the count is the number of parties that wait, modulo 2^64
  pub counts : word_in condvar_table past Word.Waiters ≡ length (waiting_after past) % 2 ^ 64
  -- they are those whose `Wait` is between its add and its subtraction, each once
  pub exactly : (party : ℕ) → times party (waiting_after past) ≡ (if is_counted (call_of party past) then 1 else 0)
