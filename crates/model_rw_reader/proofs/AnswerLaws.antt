-- What a call of a reader-preferring lock answers: by the hold that its party has then, and an `Unlock` once it has freed and woken. And with
-- that the whole of what such a lock keeps.
use Rattle.model_rw_reader.proofs.Names.{eqb-false, eqb-true, nat_tests, ◌≡◌, ℕ, List, [], ◌∷◌, Option, Some, None, arith, IsKept, at_place, waits_first, waits_as, spins_no_more, tells_memory, Word, Wake, Act, Event, Then, HoldKind, After, Arithmetic, PendingCall, holds_of, hold_of, hold_after, word_in, latest_outcome, acts_of, IsAnswered, AnswersByHold, step_at, IsPast, RwReaderPlace, rw_reader_table, HasUnlocked, steps_in_vain, rw_reader_waiting, KeepsRwReader}
use Rattle.model_events.proofs.RwAnswers.{LeadsTo, answers_by_hold}
use Rattle.model_rw_reader.proofs.ReaderLocks.{reader_lock_word, reader_lock_exclusive}
use Rattle.model_rw_reader.proofs.NextSteps.{each_steps, each_ends}
use Rattle.model_rw_reader.proofs.Laws.{AtRwReader, rw_reader_kept, rw_reader_is_lock, spins_bounded, event_law}

-- Before its release an `Unlock` has done nothing; before its wake, all but that, and it has no hold any more and asks nobody.
abbrev IsLeaving : {T : Type 0} → RwReaderPlace → List (Event T) → Option HoldKind → Type 0
IsLeaving RwReaderPlace.Release own hold = own ≡ []
IsLeaving RwReaderPlace.Wake own hold = (hold ≡ None) × (latest_outcome own ≡ Then.GoesOn) × HasUnlocked (Act.Woke Wake.One ∷ acts_of own)
IsLeaving other own hold = Unit {0}

abbrev IsAnswering : {T : Type 0} → RwReaderPlace → PendingCall T → Option HoldKind → Type 0
IsAnswering place c hold = AtRwReader place c hold × IsLeaving place c.own hold

-- A locking call goes on within itself, or is refused.

-- What is kept of a call that leaves.

abbrev Leads : {T : Type 0} → List (Event T) → Option HoldKind → ℕ → Act T → After T RwReaderPlace → Type 0
Leads own hold number act a = LeadsTo IsLeaving own hold number act a

-- an exchange that ends its call where it is done

answering_kept : {T : Type 0} → IsKept {T = T} rw_reader_table IsAnswering
answering_kept = grind (arith, nat_tests, eqb-true, eqb-false)

-- What the step at each place answers.

step_answers :
    {T : Type 0} (place : RwReaderPlace) (c : PendingCall T) (hold : Option HoldKind) (memory : Word → ℕ) → AtRwReader place c hold → IsLeaving place c.own hold →
    IsAnswered HasUnlocked (Some c) (step_at rw_reader_table place hold memory).act (step_at rw_reader_table place hold memory).outcome
    (hold_after {T = T} rw_reader_table (step_at rw_reader_table place hold memory).act (Some c) hold)
step_answers place c hold memory h1 h2 = grind (arith, nat_tests, eqb-true, eqb-false)

answers_at_every_prefix : {T : Type 0} (z : Arithmetic T) (parties : ℕ) (past : List (Event T)) → IsPast z rw_reader_table parties past → AnswersByHold rw_reader_table HasUnlocked past
answers_at_every_prefix {T} z parties past run =
    answers_by_hold z rw_reader_table parties HasUnlocked
    (λ before party c place goes called stage.
    let at = at_place z rw_reader_table parties IsAnswering answering_kept before goes party c place called stage in
    step_answers place c (hold_of rw_reader_table party before) (word_in rw_reader_table before) at.0 at.1)
    past run

pub keeps_rw_reader : {T : Type 0} (z : Arithmetic T) (parties : ℕ) (past : List (Event T)) → IsPast z rw_reader_table parties past → KeepsRwReader past
keeps_rw_reader z parties [] run =
    let word = reader_lock_word z rw_reader_table parties (rw_reader_is_lock z parties) [] run in
    record { told = tt; exclusive = reader_lock_exclusive 0 [] word.counts; cause = tt; law = record { counts = word.counts; exact = tt; answers = tt; waits = waits_first rw_reader_waiting; steps = tt; within = λ party. tt } }
keeps_rw_reader z parties (e ∷ past) run =
    let event = event_law z parties past e run in
    let word = reader_lock_word z rw_reader_table parties (rw_reader_is_lock z parties) (e ∷ past) run in
    record {
      told = tells_memory z rw_reader_table parties (e ∷ past) run;
      exclusive = reader_lock_exclusive _ (holds_of rw_reader_table (e ∷ past)) word.counts;
      cause = event.cause;
      law = record {
        counts = word.counts;
        exact = event.exact;
        answers = answers_at_every_prefix z parties (e ∷ past) run;
        waits = waits_as rw_reader_waiting past e event.asks (spins_no_more z rw_reader_table parties AtRwReader steps_in_vain rw_reader_kept spins_bounded (e ∷ past) run);
        steps = each_steps z parties (e ∷ past) run;
        within = each_ends z parties (e ∷ past) run;
      };
    }
