-- What a call of a writer-preferring lock answers: by the hold that its party has then, and an `Unlock` once it has freed, counted and woken.
use Rattle.model_rw_writer.proofs.Names.{nat_tests, ◌≡◌, ℕ, ◌+◌, ◌-◌, ◌%◌, ◌^◌, List, [], ◌∷◌, Option, Some, None, arith, eqb-true, eqb-false, LeadsTo, leads_on, answers_by_hold, IsKept, at_place, WaitAction, Word, Wake, Call, Act, Event, Then, HoldKind, After, Arithmetic, carried_out, value_told, PendingCall, hold_of, hold_after, word_in, latest_outcome, event, acts_of, IsAnswered, AnswersByHold, step_at, answer_fault, choose_fault, IsPast, Leaver, RwWriterPlace, rw_writer_table, rw_writer_begins, rw_writer_answered, HasUnlocked}
use Rattle.model_rw_writer.proofs.PlaceLaws.{AtRwWriter, rw_writer_kept}

-- What a call that leaves has done, newest first.

abbrev pub HasFreed : {T : Type 0} → Leaver → List (Act T) → Type 0
HasFreed Leaver.Reader done = done ≡ Act.Add Word.State 3 ((3 + (2 ^ 64 - 2)) % 2 ^ 64) ∷ []
HasFreed Leaver.Writer done = done ≡ Act.Store Word.State 0 ∷ []
HasFreed Leaver.GivenUp done = Unit {0}

abbrev pub HasCounted : {T : Type 0} → Leaver → List (Act T) → Type 0
HasCounted {T} who done = (count : ℕ) × (before : List (Act T)) × HasFreed who before × (done ≡ Act.Add Word.Counter count ((count + 1) % 2 ^ 64) ∷ before)

abbrev pub HasWokenOne : {T : Type 0} → Leaver → List (Act T) → Type 0
HasWokenOne Leaver.Reader done = ⊥
HasWokenOne {T} who done = (before : List (Act T)) × HasCounted who before × (done ≡ Act.Woke Wake.One ∷ before)

-- and at each place where it leaves it has no hold any more, and asks nobody
abbrev pub IsLeaving : {T : Type 0} → RwWriterPlace → List (Event T) → Option HoldKind → Type 0
IsLeaving RwWriterPlace.Release own hold = own ≡ []
IsLeaving (RwWriterPlace.Count who) own hold = (hold ≡ None) × (latest_outcome own ≡ Then.GoesOn) × HasFreed who (acts_of own)
IsLeaving (RwWriterPlace.WakeOne who) own hold = (hold ≡ None) × (latest_outcome own ≡ Then.GoesOn) × HasCounted who (acts_of own)
IsLeaving (RwWriterPlace.WakeAll who) own hold = (hold ≡ None) × (latest_outcome own ≡ Then.GoesOn) × HasWokenOne who (acts_of own)
IsLeaving other own hold = Unit {0}

abbrev pub IsAnswering : {T : Type 0} → RwWriterPlace → PendingCall T → Option HoldKind → Type 0
IsAnswering place c hold = AtRwWriter place c hold × IsLeaving place c.own hold

-- A locking call goes on within itself, or is refused.

-- What is kept of a call that leaves.

abbrev Leads : {T : Type 0} → List (Event T) → Option HoldKind → ℕ → Act T → After T RwWriterPlace → Type 0
Leads own hold number act a = LeadsTo IsLeaving own hold number act a

-- an exchange leads on as it was done or failed

-- a reader's release, by what it found

leaving_leads :
    {T : Type 0} (place : RwWriterPlace) (c : PendingCall T) (hold : Option HoldKind) (memory : Word → ℕ) (number : ℕ) → AtRwWriter place c hold → IsLeaving place c.own hold →
    Leads c.own (hold_after rw_writer_table (step_at rw_writer_table place hold memory).act (Some c) hold) number (step_at rw_writer_table place hold memory).act
    (rw_writer_table.after place (value_told {T = T} (carried_out (rw_writer_table.intent place hold) memory)))
leaving_leads place c hold memory number h1 h2 = grind (arith, nat_tests, eqb-true, eqb-false)

begins_leaving : {T : Type 0} (call : Call T) (place : RwWriterPlace) (hold : Option HoldKind) → rw_writer_begins call ≡ Some place → IsLeaving {T = T} place [] hold
begins_leaving call place hold h1 = grind (arith, nat_tests, eqb-true, eqb-false)

answered_leaving :
    {T : Type 0} (place : RwWriterPlace) (own : List (Event T)) (hold : Option HoldKind) (action : WaitAction) (number : ℕ) → IsLeaving place own hold → answer_fault (latest_outcome own) ≡ None →
    IsLeaving (rw_writer_answered place action) (event number (Act.Answered action) Then.GoesOn ∷ own) hold
answered_leaving place own hold action number h1 h2 = grind (arith, nat_tests, eqb-true, eqb-false)

chosen_leaving :
    {T : Type 0} (place : RwWriterPlace) (own : List (Event T)) (hold : Option HoldKind) (choice : Option T) (number : ℕ) → IsLeaving place own hold → choose_fault (latest_outcome own) ≡ None →
    IsLeaving place (event number (Act.Chosen choice) Then.GoesOn ∷ own) hold
chosen_leaving place own hold choice number h1 h2 = grind (arith, nat_tests, eqb-true, eqb-false)

pub answering_kept : {T : Type 0} → IsKept {T = T} rw_writer_table IsAnswering
answering_kept {T} =
    record {
      begins = λ call place hold is allowed. (rw_writer_kept.begins call place hold is allowed, begins_leaving {T = T} call place hold is);
      steps = λ place c hold memory number next at free is. (
        rw_writer_kept.steps place c hold memory number next at.0 free is,
        leads_on IsLeaving c.own (hold_after {T = T} rw_writer_table (step_at {T = T} rw_writer_table place hold memory).act (Some c) hold) number (step_at {T = T} rw_writer_table place hold memory).act next
            (rw_writer_table.after place (value_told {T = T} (carried_out (rw_writer_table.intent place hold) memory))) (leaving_leads place c hold memory number at.0 at.1) is,
      );
      answers = λ place c hold action number at waits. (rw_writer_kept.answers place c hold action number at.0 waits, answered_leaving place c.own hold action number at.1 waits);
      chooses = λ place c hold choice number at stands. (rw_writer_kept.chooses place c hold choice number at.0 stands, chosen_leaving place c.own hold choice number at.1 stands);
    }

-- What the step at each place answers.

step_answers :
    {T : Type 0} (place : RwWriterPlace) (c : PendingCall T) (hold : Option HoldKind) (memory : Word → ℕ) → AtRwWriter place c hold → IsLeaving place c.own hold →
    IsAnswered HasUnlocked (Some c) (step_at rw_writer_table place hold memory).act (step_at rw_writer_table place hold memory).outcome
    (hold_after {T = T} rw_writer_table (step_at rw_writer_table place hold memory).act (Some c) hold)
step_answers place c hold memory h1 h2 = grind (arith, nat_tests, eqb-true, eqb-false)

pub answers_at_every_prefix : {T : Type 0} (z : Arithmetic T) (parties : ℕ) (past : List (Event T)) → IsPast z rw_writer_table parties past → AnswersByHold rw_writer_table HasUnlocked past
answers_at_every_prefix {T} z parties past run =
    answers_by_hold z rw_writer_table parties HasUnlocked
    (λ before party c place goes called stage.
    let at = at_place z rw_writer_table parties IsAnswering answering_kept before goes party c place called stage in
    step_answers place c (hold_of rw_writer_table party before) (word_in rw_writer_table before) at.0 at.1)
    past run
