-- Who owes what: a party whose event unblocked the lock has still to add to the counter, and one that made the word even to wake all.
use Rattle.std.specs.Prelude.{◌≡◌, ℕ, ◌+◌, ◌%◌, ◌<◌, ◌^◌, ◌==◌, nat_lt, Bool, true, false, not, ◌&&◌, ◌||◌, List, [], ◌∷◌, Option, Some, None, ◌⊎◌, if◌then◌else◌}
use Rattle.model_rw_writer.specs.Names.{Word, Call, Act, Then, Event, Wake, Hold, PendingCall, call_of, holds_of, word_in, latest_outcome, reads_in, writes_in, is_step, acts_in}
use Rattle.model_rw_writer.specs.Table.{rw_writer_table}
use Rattle.model_rw_writer.specs.Marks.{is_marked_after}

-- a write hold stands, or the mark is set and a read hold stands
abbrev pub blocks : List Hold → Bool → Bool
blocks holds marked = nat_lt 0 (writes_in holds) || (marked && nat_lt 0 (reads_in holds))

-- the lock is blocked: no waiting writer could enter
abbrev pub is_blocked_after : {T : Type 0} → List (Event T) → Bool
is_blocked_after past = blocks (holds_of rw_writer_table past) (is_marked_after past)

abbrev pub is_answer : {T : Type 0} → Then T → Bool
is_answer (Then.Answers answer) = true
is_answer other = false

abbrev pub adds_count : {T : Type 0} → Act T → Bool
adds_count (Act.Add Word.Counter old put) = true
adds_count act = false

abbrev pub loads_count : {T : Type 0} → Act T → Bool
loads_count (Act.Load Word.Counter seen) = true
loads_count act = false

-- the counter is the number of adds on it so far, modulo 2 ^ 64
abbrev pub CounterCountsAdds : {T : Type 0} → List (Event T) → Type 0
CounterCountsAdds past = word_in rw_writer_table past Word.Counter ≡ acts_in adds_count past % 2 ^ 64

-- A party owes a counter step from its event that ended that the lock was blocked, until its next add on the counter; no longer than its
-- call lasts.
abbrev pub owes_count : {T : Type 0} → ℕ → List (Event T) → Bool
owes_count party [] = false
owes_count party (e ∷ past) =
    if e.party == party
    then (if (is_answer e.then || adds_count e.act) then false else (if (is_blocked_after past && not (is_blocked_after (e ∷ past))) then true else owes_count party past))
    else owes_count party past

-- how many adds came on the counter since the party loaded it last
abbrev pub counts_since_load : {T : Type 0} → ℕ → List (Event T) → ℕ
counts_since_load party [] = 0
counts_since_load party (e ∷ past) =
    if (e.party == party && loads_count e.act) then 0 else (if adds_count e.act then 1 else 0) + counts_since_load party past

-- a writer stands at its wait closure, which was told this count
pub record StandsWith {T : Type 0} (party count : ℕ) (past : List (Event T)) : Type 0 where
  pub call : PendingCall T
  pub under_way : call_of party past ≡ Some call
  pub writes : call.call ≡ Call.WriteLock
  pub stands : latest_outcome call.own ≡ Then.Waits count

-- No count is lost: while a writer stands, and fewer than 2 ^ 64 adds came on the counter since it loaded it, some party owes a counter
-- step wherever the counter is what it loaded and the lock is not blocked.
abbrev pub NoCountIsLost : {T : Type 0} → List (Event T) → Type 0
NoCountIsLost past =
    (party count : ℕ) → StandsWith party count past → counts_since_load party past < 2 ^ 64 → word_in rw_writer_table past Word.Counter ≡ count → is_blocked_after past ≡ false →
    (q : ℕ) × (owes_count q past ≡ true)

-- A debt is paid at once: the next step of a party that owes a counter step is its add. So no party stands, ends or goes round that owes one.
abbrev pub PaysNext : {T : Type 0} → List (Event T) → Type 0
PaysNext [] = Unit {0}
PaysNext (e ∷ past) = owes_count e.party past ≡ true → is_step e.act ≡ true → adds_count e.act ≡ true

-- The readers' wakes.

-- neither a write hold stands nor the mark is set: a reader may enter again
abbrev pub is_even_after : {T : Type 0} → List (Event T) → Bool
is_even_after past = not (nat_lt 0 (writes_in (holds_of rw_writer_table past)) || is_marked_after past)

-- an event that makes the word even
abbrev pub makes_even : {T : Type 0} → Event T → List (Event T) → Bool
makes_even e past = not (is_even_after past) && is_even_after (e ∷ past)

abbrev pub wakes_all : {T : Type 0} → Act T → Bool
wakes_all (Act.Woke Wake.All) = true
wakes_all act = false

-- A party owes a wake of all from its event that made the word even until it has made it; no longer than its call lasts.
abbrev pub owes_wake : {T : Type 0} → ℕ → List (Event T) → Bool
owes_wake party [] = false
owes_wake party (e ∷ past) =
    if e.party == party
    then (if (is_answer e.then || wakes_all e.act) then false else (if makes_even e past then true else owes_wake party past))
    else owes_wake party past

-- who made the word even last, and whether it has called its wake of all since
pub record Evener : Type 0 where
  pub party : ℕ
  pub woke : Bool

abbrev pub evener_after : {T : Type 0} → Event T → Option Evener → Option Evener
evener_after e None = None
evener_after e (Some evener) = Some (record { party = evener.party; woke = evener.woke || ((e.party == evener.party) && wakes_all e.act) })

abbrev pub evener_of : {T : Type 0} → List (Event T) → Option Evener
evener_of [] = None
evener_of (e ∷ past) = if makes_even e past then Some (record { party = e.party; woke = false }) else evener_after e (evener_of past)

-- a reader stands at its wait closure, which was told this value
pub record ReaderStands {T : Type 0} (party seen : ℕ) (past : List (Event T)) : Type 0 where
  pub call : PendingCall T
  pub under_way : call_of party past ≡ Some call
  pub reads : call.call ≡ Call.ReadLock
  pub stands : latest_outcome call.own ≡ Then.Waits seen

-- Readers are woken: while a reader stands that saw an odd word, and the word is even again, the party that made it even last has called
-- its wake of all since, or still owes it.
abbrev pub ReadersAreWoken : {T : Type 0} → List (Event T) → Type 0
ReadersAreWoken past =
    (party seen : ℕ) → ReaderStands party seen past → (seen % 2 == 1) ≡ true → is_even_after past ≡ true →
    (evener : Evener) × (evener_of past ≡ Some evener) × ((evener.woke ≡ true) ⊎ (owes_wake evener.party past ≡ true))
