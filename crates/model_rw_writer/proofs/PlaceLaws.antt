-- What is kept of a call at each place of a writer-preferring lock.
use Rattle.model_rw_writer.proofs.Names.{◌≡◌, ◌≢◌, ℕ, ◌+◌, ◌-◌, ◌%◌, ◌^◌, ◌<◌, ◌≤◌, ◌==◌, refl, ◌∙◌, ap, Bool, true, false, cond, is_some, ◌&&◌, List, [], ◌∷◌, Option, Some, None, ◌⊎◌, inl, inr, arith, eqb-true, eqb-false, nat_tests, answered_keep, IsLook, LastSaw, IsKept, at_place, OwnLeadsTo, leads_on, not, WaitAction, Word, Call, Act, Event, Then, HoldKind, Patience, After, Arithmetic, carried_out, value_told, PendingCall, call_of, hold_of, hold_after, latest_outcome, event, is_failure, step_at, hold_fault, answer_fault, choose_fault, stage_of, IsPast, sight_of, is_sight, is_write, is_abort, keeps_asking, Leaver, RwWriterPlace, lets_writer_in, unmarks_or_leaves, rw_writer_table, rw_writer_begins, rw_writer_answered, rw_writer_grant}
use Rattle.model_rw_writer.proofs.WordLaws.{IsWriterIntent, is_marking}

-- the call has asked its closure as the patience says
abbrev pub Asks : {T : Type 0} → Patience → List (Event T) → Type 0
Asks patience own = keeps_asking own ≡ patience.keep

-- the place was reached by a look, which told this value
abbrev pub Looked : {T : Type 0} → ℕ → List (Event T) → Type 0
Looked seen own = IsLook Word.State seen own × (latest_outcome own ≡ Then.GoesOn)

-- a reader enters from the value seen
abbrev pub ReaderEnters : ℕ → ℕ → Type 0
ReaderEnters seen to = (seen % 2 ≡ 0) × (seen < 2 ^ 64 - 4) × (to ≡ seen + 2)

-- a writer sets the mark at the value seen, or takes it away
abbrev pub Sets : ℕ → ℕ → Type 0
Sets seen to = (seen % 2 ≡ 0) × (seen ≢ 2 ^ 64 - 2) × (to ≡ seen + 1)

abbrev pub Clears : ℕ → ℕ → Type 0
Clears seen to = (seen % 2 ≡ 1) × (seen ≢ 2 ^ 64 - 1) × (seen ≡ to + 1)

-- Why a writer gives up.

-- the latest exchange of the call that failed did so after its closure had answered Abort
abbrev pub failed_after_abort : {T : Type 0} → List (Event T) → Bool
failed_after_abort [] = false
failed_after_abort (e ∷ own) = cond (is_sight Word.State e.act && is_failure e.act) (not (keeps_asking own)) (failed_after_abort own)

-- at its last sight, after its closure had answered Abort, the word was that of a held lock
pub record SawHold {T : Type 0} (own : List (Event T)) : Type 0 where
  pub seen : ℕ
  pub before : List (Event T)
  pub saw : LastSaw Word.State seen before own
  pub held : 2 ≤ seen
  pub aborted : keeps_asking before ≡ false

abbrev pub MayGiveUp : {T : Type 0} → List (Event T) → Type 0
MayGiveUp own = SawHold own ⊎ (failed_after_abort own ≡ true)

-- who leaves: the last reader and the writer in an `Unlock`, a writer that gives up in its `WriteLock`
abbrev pub IsLeaver : {T : Type 0} → Leaver → PendingCall T → Type 0
IsLeaver Leaver.Reader c = c.call ≡ Call.Unlock
IsLeaver Leaver.Writer c = c.call ≡ Call.Unlock
IsLeaver Leaver.GivenUp c = (c.call ≡ Call.WriteLock) × MayGiveUp c.own

-- while a locking call is under way its party has no hold
abbrev pub AtRwWriter : {T : Type 0} → RwWriterPlace → PendingCall T → Option HoldKind → Type 0
AtRwWriter RwWriterPlace.TryReadLook c hold = (c.call ≡ Call.TryReadLock) × (hold ≡ None)
AtRwWriter (RwWriterPlace.TryRead seen to) c hold = (c.call ≡ Call.TryReadLock) × (hold ≡ None) × ReaderEnters seen to × Looked seen c.own
AtRwWriter (RwWriterPlace.ReadLook patience) c hold = (c.call ≡ Call.ReadLock) × (hold ≡ None) × Asks patience c.own
AtRwWriter (RwWriterPlace.Read seen to patience) c hold = (c.call ≡ Call.ReadLock) × (hold ≡ None) × Asks patience c.own × ReaderEnters seen to × Looked seen c.own
AtRwWriter RwWriterPlace.TryWrite c hold = (c.call ≡ Call.TryWriteLock) × (hold ≡ None)
AtRwWriter (RwWriterPlace.WriteLook patience) c hold = (c.call ≡ Call.WriteLock) × (hold ≡ None) × Asks patience c.own
AtRwWriter (RwWriterPlace.Enter seen patience) c hold = (c.call ≡ Call.WriteLock) × (hold ≡ None) × Asks patience c.own × (seen < 2) × Looked seen c.own
AtRwWriter (RwWriterPlace.Mark seen to patience) c hold = (c.call ≡ Call.WriteLock) × (hold ≡ None) × Asks patience c.own × Sets seen to × Looked seen c.own
AtRwWriter (RwWriterPlace.Unmark seen to) c hold = (c.call ≡ Call.WriteLock) × (hold ≡ None) × (keeps_asking c.own ≡ false) × Clears seen to × Looked seen c.own × ((2 ≤ seen) ⊎ (failed_after_abort c.own ≡ true))
AtRwWriter (RwWriterPlace.LoadCounter patience) c hold = (c.call ≡ Call.WriteLock) × (hold ≡ None) × Asks patience c.own × (latest_outcome c.own ≡ Then.GoesOn)
AtRwWriter (RwWriterPlace.LastLook count patience) c hold = (c.call ≡ Call.WriteLock) × (hold ≡ None) × Asks patience c.own × (latest_outcome c.own ≡ Then.GoesOn)
AtRwWriter RwWriterPlace.Release c hold = (c.call ≡ Call.Unlock) × (is_some hold ≡ true)
AtRwWriter (RwWriterPlace.Count who) c hold = IsLeaver who c
AtRwWriter (RwWriterPlace.WakeOne who) c hold = IsLeaver who c
AtRwWriter (RwWriterPlace.WakeAll who) c hold = IsLeaver who c

-- the call with one more event of its own
abbrev pub grown : {T : Type 0} → PendingCall T → Event T → PendingCall T
grown c e = record { call = c.call; own = e ∷ c.own }

-- the same of a call's own events
abbrev pub AtOwn : {T : Type 0} → Call T → RwWriterPlace → List (Event T) → Option HoldKind → Type 0
AtOwn call place own hold = AtRwWriter place (record { call = call; own = own }) hold

-- what is kept where a step leads
abbrev pub LeadsTo : {T : Type 0} → PendingCall T → Option HoldKind → ℕ → Act T → After T RwWriterPlace → Type 0
LeadsTo c hold number act a = OwnLeadsTo (AtOwn c.call) c.own hold number act a

-- Where a call begins.

begins_at :
    {T : Type 0} (call : Call T) (place : RwWriterPlace) (hold : Option HoldKind) → rw_writer_begins call ≡ Some place → hold_fault {T = T} rw_writer_table call hold ≡ None →
    AtRwWriter {T = T} place (record { call = call; own = [] }) hold
begins_at call place hold h1 h2 = grind (arith, nat_tests, eqb-true, eqb-false)

-- What the tests on the word tell.

pub writer_enters : (v : ℕ) → lets_writer_in v ≡ true → v < 2
writer_enters v is = grind (arith, nat_tests)

pub held_above : (v : ℕ) → lets_writer_in v ≡ false → 2 ≤ v
held_above v is = grind (arith, nat_tests)

-- Where a look leads.

abbrev IsLookAt : {T : Type 0} → Act T → ℕ → Type 0
IsLookAt act v = (sight_of Word.State act ≡ Some v) × (is_write Word.State act ≡ false)

-- what a writer saw that takes the mark away: a held lock, or that its exchange failed
abbrev pub SawWhy : {T : Type 0} → Act T → ℕ → Type 0
SawWhy act v = (2 ≤ v) ⊎ (is_failure act ≡ true)

unmarks_lead :
    {T : Type 0} (c : PendingCall T) (hold : Option HoldKind) (number : ℕ) (act : Act T) (v : ℕ) → c.call ≡ Call.WriteLock → hold ≡ None → keeps_asking c.own ≡ false → is_abort act ≡ false → IsLookAt act v → SawWhy act v →
    LeadsTo c hold number act (unmarks_or_leaves v)
unmarks_lead c hold number act v h1 h2 h3 h4 h5 h6 = grind (arith, nat_tests, eqb-true, eqb-false)

-- neither a mark nor its removal grants a hold

pub mark_grants_none : {T : Type 0} (call : Call T) (seen to : ℕ) → call ≡ Call.WriteLock → to ≡ seen + 1 → rw_writer_grant call seen to ≡ None
mark_grants_none {T} call seen to is more = ap (λ (k : Call T). rw_writer_grant k seen to) is ∙ rw (is_marking seen to more) refl

unmark_leads :
    {T : Type 0} (c : PendingCall T) (hold : Option HoldKind) (number seen to w : ℕ) (b : Bool) → c.call ≡ Call.WriteLock → hold ≡ None → keeps_asking c.own ≡ false → (2 ≤ seen) ⊎ (failed_after_abort c.own ≡ true) → (w == seen) ≡ b →
    LeadsTo c (hold_after rw_writer_table (Act.Exchange Word.State seen to w b) (Some c) hold) number (Act.Exchange Word.State seen to w b) (cond b (After.At (RwWriterPlace.Count Leaver.GivenUp)) (unmarks_or_leaves w))
unmark_leads {T} c hold number seen to w true call free aborted why is = (call, gives_up why)
  where
    found : w ≡ seen
    found = eqb-true w seen is

    gives_up : (2 ≤ seen) ⊎ (failed_after_abort c.own ≡ true) → MayGiveUp (event number (Act.Exchange Word.State seen to w true) Then.GoesOn ∷ c.own)
    gives_up (inl held) = inl (record { seen = seen; before = c.own; saw = (ap (λ v. Some v) found, refl); held = held; aborted = aborted })
    gives_up (inr failed) = inr failed
unmark_leads c hold number seen to w false call free aborted why is = unmarks_lead c hold number (Act.Exchange Word.State seen to w false) w call free aborted refl (refl, refl) (inr refl)

-- Where the leaving leads.

-- an act that is no sight of the word leaves why a writer gives up

leaves_on : {T : Type 0} (who : Leaver) (c : PendingCall T) (e : Event T) → is_sight Word.State e.act ≡ false → IsLeaver who c → IsLeaver who (grown c e)
leaves_on who c e h1 h2 = grind (arith, nat_tests, eqb-true, eqb-false)

abbrev unmarks_there : RwWriterPlace → Bool
unmarks_there (RwWriterPlace.Unmark seen to) = true
unmarks_there other = false

-- an exchange that takes the mark away, and every other step
others_at :
    {T : Type 0} (place : RwWriterPlace) (c : PendingCall T) (hold : Option HoldKind) (memory : Word → ℕ) (number : ℕ) → AtRwWriter place c hold → unmarks_there place ≡ false →
    LeadsTo c (hold_after rw_writer_table (step_at rw_writer_table place hold memory).act (Some c) hold) number (step_at rw_writer_table place hold memory).act
    (rw_writer_table.after place (value_told {T = T} (carried_out (rw_writer_table.intent place hold) memory)))
others_at place c hold memory number at other = grind (arith, nat_tests, eqb-true, eqb-false, leaves_on, mark_grants_none)

steps_at :
    {T : Type 0} (place : RwWriterPlace) (c : PendingCall T) (hold : Option HoldKind) (memory : Word → ℕ) (number : ℕ) → AtRwWriter place c hold →
    LeadsTo c (hold_after rw_writer_table (step_at rw_writer_table place hold memory).act (Some c) hold) number (step_at rw_writer_table place hold memory).act
    (rw_writer_table.after place (value_told {T = T} (carried_out (rw_writer_table.intent place hold) memory)))
steps_at (RwWriterPlace.Unmark seen to) c hold memory number at = unmark_leads c hold number seen to (memory Word.State) (memory Word.State == seen) at.0 at.1 at.2 at.5 refl
steps_at other c hold memory number at = others_at other c hold memory number at refl

-- Where an answer leads.

answers_at :
    {T : Type 0} (place : RwWriterPlace) (c : PendingCall T) (hold : Option HoldKind) (action : WaitAction) (number : ℕ) → AtRwWriter place c hold → answer_fault (latest_outcome c.own) ≡ None →
    AtRwWriter {T = T} (rw_writer_answered place action) (record { call = c.call; own = event number (Act.Answered action) Then.GoesOn ∷ c.own }) hold
answers_at place c hold action number at waits = grind (arith, answered_keep, leaves_on)

chooses_at :
    {T : Type 0} (place : RwWriterPlace) (c : PendingCall T) (hold : Option HoldKind) (choice : Option T) (number : ℕ) → AtRwWriter place c hold → choose_fault (latest_outcome c.own) ≡ None →
    AtRwWriter {T = T} place (record { call = c.call; own = event number (Act.Chosen choice) Then.GoesOn ∷ c.own }) hold
chooses_at place c hold choice number at stands = grind (arith, leaves_on)

pub rw_writer_kept : {T : Type 0} → IsKept {T = T} rw_writer_table AtRwWriter
rw_writer_kept {T} =
    record {
      begins = begins_at;
      steps = λ place c hold memory number next at free is.
          leads_on (AtOwn c.call) c.own (hold_after {T = T} rw_writer_table (step_at {T = T} rw_writer_table place hold memory).act (Some c) hold) number (step_at {T = T} rw_writer_table place hold memory).act next
          (rw_writer_table.after place (value_told {T = T} (carried_out (rw_writer_table.intent place hold) memory))) (steps_at place c hold memory number at) is;
      answers = answers_at;
      chooses = chooses_at;
    }

-- What each step does to the word.

pub writer_intent : {T : Type 0} (place : RwWriterPlace) (c : PendingCall T) (hold : Option HoldKind) → AtRwWriter place c hold → IsWriterIntent {T = T} c.call hold (rw_writer_table.intent place hold)
writer_intent place c hold h1 = grind (arith, nat_tests, eqb-true, eqb-false)

-- of the call that a party has under way, at its place
pub here :
    {T : Type 0} (z : Arithmetic T) (parties : ℕ) (past : List (Event T)) → IsPast z rw_writer_table parties past → (party : ℕ) (c : PendingCall T) (place : RwWriterPlace) →
    call_of party past ≡ Some c → stage_of rw_writer_table c ≡ Some place → AtRwWriter place c (hold_of rw_writer_table party past)
here z parties past run party c place called stage = at_place z rw_writer_table parties AtRwWriter rw_writer_kept past run party c place called stage
