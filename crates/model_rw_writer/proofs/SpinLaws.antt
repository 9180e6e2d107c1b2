-- How often a call of a writer-preferring lock has spun, at each of its places.
use Rattle.model_rw_writer.proofs.Names.{eqb-false, eqb-true, nat_tests, ◌≡◌, ℕ, ◌-◌, ◌^◌, ◌≤◌, Bool, true, false, List, [], ◌∷◌, Option, Some, None, arith, HasSpun, by_move, IsKept, at_place, WaitAction, Word, Call, Act, Event, Then, HoldKind, Patience, After, Arithmetic, carried_out, value_told, outcome_of, place_after, PendingCall, call_of, hold_of, word_in, latest_outcome, event, Move, step_at, hold_fault, answer_fault, choose_fault, stage_of, IsPast, keeps_asking, last_of, WhereAsked, Leaver, RwWriterPlace, is_mark, rw_writer_table, rw_writer_begins, rw_writer_answered, loads_count, is_read_in_vain, write_spins_in, spins_of, told_by}
use Rattle.model_rw_writer.proofs.PlaceLaws.{Clears, grown}

-- What is kept of a call's spins at its place.

-- of a writer's call that looks at the word next
abbrev pub Spun : {T : Type 0} → Patience → List (Event T) → Type 0
Spun patience own = (write_spins_in false own ≡ patience.spins) × (patience.spins ≤ 10000) × (keeps_asking own ≡ patience.keep)

-- of one that has all its spins behind it, and asks next
abbrev pub AllSpun : {T : Type 0} → Bool → Patience → List (Event T) → Type 0
AllSpun loads_next patience own =
    (write_spins_in loads_next own ≡ 10000) × (patience.spins ≡ 10000) × (latest_outcome own ≡ Then.GoesOn) × (keeps_asking own ≡ true) × (patience.keep ≡ true)

-- of one that gives up: its last try may have been in vain too
abbrev pub GivesUp : {T : Type 0} → List (Event T) → Type 0
GivesUp own = (keeps_asking own ≡ false) × (write_spins_in false own ≤ 10001)

abbrev pub Leaves : {T : Type 0} → Leaver → List (Event T) → Type 0
Leaves Leaver.GivenUp own = GivesUp own
Leaves other own = Unit {0}

abbrev pub HasSpunAt : {T : Type 0} → RwWriterPlace → PendingCall T → Option HoldKind → Type 0
HasSpunAt (RwWriterPlace.ReadLook patience) c hold = (c.call ≡ Call.ReadLock) × HasSpun is_read_in_vain patience c.own
HasSpunAt (RwWriterPlace.Read seen to patience) c hold = (c.call ≡ Call.ReadLock) × HasSpun is_read_in_vain patience c.own × (latest_outcome c.own ≡ Then.GoesOn)
HasSpunAt (RwWriterPlace.WriteLook patience) c hold = (c.call ≡ Call.WriteLock) × Spun patience c.own
HasSpunAt (RwWriterPlace.Enter seen patience) c hold = (c.call ≡ Call.WriteLock) × Spun patience c.own × (is_mark seen (2 ^ 64 - 1) ≡ false) × (latest_outcome c.own ≡ Then.GoesOn)
HasSpunAt (RwWriterPlace.Mark seen to patience) c hold = (c.call ≡ Call.WriteLock) × Spun patience c.own × (is_mark seen to ≡ true) × (latest_outcome c.own ≡ Then.GoesOn) × (patience.keep ≡ true)
HasSpunAt (RwWriterPlace.Unmark seen to) c hold = (c.call ≡ Call.WriteLock) × GivesUp c.own × Clears seen to
HasSpunAt (RwWriterPlace.LoadCounter patience) c hold = (c.call ≡ Call.WriteLock) × AllSpun true patience c.own
HasSpunAt (RwWriterPlace.LastLook count patience) c hold = (c.call ≡ Call.WriteLock) × AllSpun false patience c.own × (last_of loads_count c.own ≡ Some (Act.Load Word.Counter count))
HasSpunAt (RwWriterPlace.Count who) c hold = Leaves who c.own
HasSpunAt (RwWriterPlace.WakeOne who) c hold = Leaves who c.own
HasSpunAt (RwWriterPlace.WakeAll who) c hold = Leaves who c.own
HasSpunAt place c hold = Unit {0}

-- what is so of a call where it asks its wait closure
abbrev pub IsAskedSo : {T : Type 0} → PendingCall T → Act T → ℕ → Type 0
IsAskedSo c act told = (spins_of c.call c.own ≡ 10000) × (told_by c.call c.own act ≡ Some told) × (keeps_asking c.own ≡ true)

-- what is kept where a step leads, and when it asks
abbrev SpunAfter : {T : Type 0} → PendingCall T → Option HoldKind → ℕ → Act T → After T RwWriterPlace → Type 0
SpunAfter c hold number act (After.At place) = HasSpunAt place (grown c (event number act Then.GoesOn)) hold
SpunAfter c hold number act (After.Waits place told) = HasSpunAt place (grown c (event number act (Then.Waits told))) hold × IsAskedSo c act told
SpunAfter c hold number act (After.Chooses place old) = HasSpunAt place (grown c (event number act (Then.Chooses old))) hold
SpunAfter c hold number act (After.Ends answer) = Unit {0}

spun_on :
    {T : Type 0} (c : PendingCall T) (hold : Option HoldKind) (number : ℕ) (act : Act T) (next : RwWriterPlace) (a : After T RwWriterPlace) → SpunAfter c hold number act a → place_after a ≡ Some next →
    HasSpunAt next (grown c (event number act (outcome_of a))) hold
spun_on c hold number act next a h1 h2 = grind (arith, nat_tests, eqb-true, eqb-false)

asked_after : {T : Type 0} (c : PendingCall T) (hold : Option HoldKind) (number : ℕ) (act : Act T) (a : After T RwWriterPlace) → SpunAfter c hold number act a → WhereAsked IsAskedSo (Some c) act (outcome_of a)
asked_after c hold number act a h1 = grind (arith, nat_tests, eqb-true, eqb-false)

-- Where a call begins.

begins_spun :
    {T : Type 0} (call : Call T) (place : RwWriterPlace) (hold : Option HoldKind) → rw_writer_begins call ≡ Some place → hold_fault {T = T} rw_writer_table call hold ≡ None →
    HasSpunAt {T = T} place (record { call = call; own = [] }) hold
begins_spun call place hold h1 h2 = grind (arith, nat_tests, eqb-true, eqb-false)

-- Where a reader's look leads.

-- Where a writer's look leads.

-- an act that is no try in vain

-- one try in vain more, at most

-- an act of a call that gives up, which is no try in vain

-- Where the other steps lead, none of which stands.

-- an exchange that takes the mark away is no try in vain

-- Each row of the table; the hold after it does not matter.
step_spun :
    {T : Type 0} (place : RwWriterPlace) (c : PendingCall T) (hold left : Option HoldKind) (memory : Word → ℕ) (number : ℕ) → HasSpunAt place c hold →
    SpunAfter c left number (step_at rw_writer_table place hold memory).act (rw_writer_table.after place (value_told {T = T} (carried_out (rw_writer_table.intent place hold) memory)))
step_spun place c hold left memory number h1 = grind (arith, nat_tests, eqb-true, eqb-false)

-- Where an answer leads.

answers_spun :
    {T : Type 0} (place : RwWriterPlace) (c : PendingCall T) (hold : Option HoldKind) (action : WaitAction) (number : ℕ) → HasSpunAt place c hold → answer_fault (latest_outcome c.own) ≡ None →
    HasSpunAt {T = T} (rw_writer_answered place action) (record { call = c.call; own = event number (Act.Answered action) Then.GoesOn ∷ c.own }) hold
answers_spun place c hold action number h1 h2 = grind (arith, nat_tests, eqb-true, eqb-false)

chooses_spun :
    {T : Type 0} (place : RwWriterPlace) (c : PendingCall T) (hold : Option HoldKind) (choice : Option T) (number : ℕ) → HasSpunAt place c hold → choose_fault (latest_outcome c.own) ≡ None →
    HasSpunAt {T = T} place (record { call = c.call; own = event number (Act.Chosen choice) Then.GoesOn ∷ c.own }) hold
chooses_spun place c hold choice number h1 h2 = grind (arith, nat_tests, eqb-true, eqb-false)

pub spun_kept : {T : Type 0} → IsKept {T = T} rw_writer_table HasSpunAt
spun_kept {T} =
    record {
      begins = begins_spun;
      steps = λ place c hold memory number next at free is.
          spun_on c _ number (step_at {T = T} rw_writer_table place hold memory).act next
          (rw_writer_table.after place (value_told {T = T} (carried_out (rw_writer_table.intent place hold) memory))) (step_spun place c hold _ memory number at) is;
      answers = answers_spun;
      chooses = chooses_spun;
    }

-- When an event asks.

pub event_asks : {T : Type 0} (z : Arithmetic T) (parties : ℕ) (past : List (Event T)) (e : Event T) → IsPast z rw_writer_table parties (e ∷ past) → WhereAsked IsAskedSo (call_of e.party past) e.act e.then
event_asks {T} z parties past e run =
    by_move rw_writer_table (call_of e.party past) (hold_of rw_writer_table e.party past) (word_in rw_writer_table past) (λ (k : Option (PendingCall T)) (x : Move T). WhereAsked IsAskedSo k x.act x.outcome)
    run.0.0 (record { act = e.act; outcome = e.then }) (λ call _. tt) (λ action _. tt) (λ choice _. tt)
    (λ c place _ called stage. stepped c place called stage)
    run.0.1.moved
  where
    stepped : (c : PendingCall T) (place : RwWriterPlace) → call_of e.party past ≡ Some c → stage_of rw_writer_table c ≡ Some place →
        WhereAsked IsAskedSo (Some c) (step_at rw_writer_table place (hold_of rw_writer_table e.party past) (word_in rw_writer_table past)).act
        (step_at rw_writer_table place (hold_of rw_writer_table e.party past) (word_in rw_writer_table past)).outcome
    stepped c place called stage =
        let hold = hold_of rw_writer_table e.party past in
        let memory = word_in rw_writer_table past in
        let act : Act T = (step_at {T = T} rw_writer_table place hold memory).act in
        let a : After T RwWriterPlace = rw_writer_table.after place (value_told act) in
        asked_after c hold e.party act a (step_spun place c hold hold memory e.party (at_place z rw_writer_table parties HasSpunAt spun_kept past run.1 e.party c place called stage))
