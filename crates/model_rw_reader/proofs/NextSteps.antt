-- Each step of a reader-preferring lock is its call's next.
use Rattle.model_rw_reader.proofs.Names.{eqb-false, eqb-true, nat_tests, ◌≡◌, ℕ, refl, true, is_some, List, Option, Some, None, ◌≤◌, ◌<◌, arith, both_kept, IsKept, WaitAction, Word, Call, Event, HoldKind, Arithmetic, place_after, PendingCall, step_at, is_step, IsPast, last_of, StepsAs, seen_last, EndsWithin, open_at, RwReaderPlace, lets_readers_in, rw_reader_table, rw_reader_begins, rw_reader_after, rw_reader_answered, rw_reader_most, RwReaderStep}
use Rattle.model_events.proofs.NextStep.{steps_as, Descends, ends_within}
use Rattle.model_rw_reader.proofs.Laws.{AtRwReader, rw_reader_kept}

-- What the latest step of a call told, at each place.

abbrev HasSeen : {T : Type 0} → RwReaderPlace → PendingCall T → Option HoldKind → Type 0
HasSeen RwReaderPlace.TryReadLook c hold = last_of is_step c.own ≡ None
HasSeen (RwReaderPlace.TryRead seen to) c hold = open_at lets_readers_in (seen_last Word.State c.own) ≡ Some seen
HasSeen (RwReaderPlace.ReadLook patience) c hold = open_at lets_readers_in (seen_last Word.State c.own) ≡ None
HasSeen (RwReaderPlace.Read seen to patience) c hold = open_at lets_readers_in (seen_last Word.State c.own) ≡ Some seen
HasSeen RwReaderPlace.TryWrite c hold = last_of is_step c.own ≡ None
HasSeen (RwReaderPlace.Write patience) c hold = Unit {0}
HasSeen RwReaderPlace.Release c hold = last_of is_step c.own ≡ None
HasSeen RwReaderPlace.Wake c hold = is_some (last_of is_step c.own) ≡ true

-- where a refused call goes on

-- after a look, by whether a reader may enter

-- a call that tries once ends with its exchange

seen_kept : {T : Type 0} → IsKept {T = T} rw_reader_table HasSeen
seen_kept = grind (arith, nat_tests, eqb-true, eqb-false)

-- How each step leaves its call, by its tests.

-- So each step is the next.

next_step :
    {T : Type 0} (place : RwReaderPlace) (c : PendingCall T) (hold : Option HoldKind) (memory : Word → ℕ) → AtRwReader place c hold × HasSeen place c hold →
    RwReaderStep {T = T} c.call c.own (step_at rw_reader_table place hold memory).act (step_at rw_reader_table place hold memory).outcome
next_step place c hold memory h1 = grind (arith, nat_tests, eqb-true, eqb-false)

pub each_steps : {T : Type 0} (z : Arithmetic T) (parties : ℕ) (past : List (Event T)) → IsPast z rw_reader_table parties past → StepsAs RwReaderStep past
each_steps z parties past run =
    steps_as z rw_reader_table parties (λ place c hold. AtRwReader place c hold × HasSeen place c hold) RwReaderStep (both_kept rw_reader_table AtRwReader HasSeen rw_reader_kept seen_kept) next_step past run

-- A call that waits for nobody has fewer steps left at each place.

abbrev rest_at : RwReaderPlace → Option ℕ
rest_at RwReaderPlace.TryReadLook = Some 2
rest_at (RwReaderPlace.TryRead seen to) = Some 1
rest_at RwReaderPlace.TryWrite = Some 1
rest_at RwReaderPlace.Release = Some 2
rest_at RwReaderPlace.Wake = Some 1
rest_at other = None

begun_at : {T : Type 0} (call : Call T) (place : RwReaderPlace) (steps : ℕ) → rw_reader_begins call ≡ Some place → rw_reader_most call ≡ Some steps → (left : ℕ) × (rest_at place ≡ Some left) × (left ≤ steps)
begun_at call place steps h1 h2 = grind (arith, nat_tests, eqb-true, eqb-false)

goes_at :
    (T : Type 0) (place next : RwReaderPlace) (told : Option ℕ) (left : ℕ) → rest_at place ≡ Some left → place_after (rw_reader_after {T = T} place told) ≡ Some next → (fewer : ℕ) × (rest_at next ≡ Some fewer) × (fewer < left)
goes_at T place next told left h1 h2 = grind (arith, nat_tests, eqb-true, eqb-false)

some_at : (place : RwReaderPlace) (left : ℕ) → rest_at place ≡ Some left → 0 < left
some_at place left h1 = grind (arith, nat_tests, eqb-true, eqb-false)

answered_at : (place : RwReaderPlace) (action : WaitAction) → rest_at (rw_reader_answered place action) ≡ rest_at place
answered_at place action = grind (arith, nat_tests, eqb-true, eqb-false)

descends : {T : Type 0} → Descends {T = T} rw_reader_table rw_reader_most rest_at
descends {T} = record { begins = begun_at; goes = goes_at T; some = some_at; answered = answered_at; chosen = λ place choice. refl }

pub each_ends : {T : Type 0} (z : Arithmetic T) (parties : ℕ) (past : List (Event T)) → IsPast z rw_reader_table parties past → EndsWithin rw_reader_most past
each_ends z parties past run = ends_within rw_reader_table rw_reader_most rest_at descends z parties past run
