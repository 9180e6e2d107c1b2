-- Each step of a writer-preferring lock is its call's next.
use Rattle.model_rw_writer.proofs.Names.{eqb-false, eqb-true, nat_tests, ◌≡◌, ℕ, ◌+◌, ◌-◌, ◌%◌, ◌^◌, ◌==◌, refl, sym, ◌∙◌, subst, Bool, true, false, cond, List, [], ◌∷◌, Option, Some, None, arith, ◌≤◌, ◌<◌, some_same, eqb_other, both_kept, IsKept, WaitAction, Word, Wake, Call, Act, Answer, Event, Then, HoldKind, Patience, After, Arithmetic, carried_out, value_told, outcome_of, place_after, within, refused, PendingCall, event, latest_outcome, step_at, answer_fault, choose_fault, is_step, IsPast, is_abort, keeps_asking, last_of, StepsAs, EndsWithin, step_before, seen_last, Loads, Exchanges, open_at, WritesIn, Leaver, RwWriterPlace, lets_readers_in, is_mark, read_look, spins, unmarks_or_leaves, write_refused, write_look, last_look, released, rw_writer_table, rw_writer_begins, rw_writer_after, rw_writer_answered, loads_count, write_spins_in, left_unmarking, left_refused, left_looking, left_last, goes_on_anyway, LooksToWrite, LookedAt, CountsOne, ExchangedFrom, WriterStep, rw_writer_most, RwWriterStep}
use Rattle.model_events.proofs.NextStep.{steps_as, Descends, ends_within}
use Rattle.model_rw_writer.proofs.WordLaws.{no_mark}
use Rattle.model_rw_writer.proofs.BoolLaws.{either}
use Rattle.model_rw_writer.proofs.LookLaws.{HoldsOn, of_spins, of_unmarks, of_refused, of_look, of_last_look}
use Rattle.model_rw_writer.proofs.PlaceLaws.{AtRwWriter, Sets, Clears}
use Rattle.model_rw_writer.proofs.SpinLaws.{HasSpunAt, spun_kept}
use Rattle.model_rw_writer.proofs.AnswerLaws.{IsAnswering, answering_kept}

-- What the step at a writer's place is, by whether it keeps on asking.
abbrev Does : {T : Type 0} → RwWriterPlace → Bool → Act T → Then T → Type 0
Does (RwWriterPlace.WriteLook patience) asks act outcome = LooksToWrite asks act outcome
Does (RwWriterPlace.Enter seen patience) asks act outcome = WritesIn seen (left_refused asks) act outcome
Does (RwWriterPlace.Mark seen to patience) asks act outcome = Exchanges Word.State seen to Then.GoesOn (left_looking asks) act outcome
Does (RwWriterPlace.Unmark seen to) asks act outcome = Exchanges Word.State seen to Then.GoesOn left_unmarking act outcome
Does (RwWriterPlace.LoadCounter patience) asks act outcome = Loads Word.Counter goes_on_anyway act outcome
Does (RwWriterPlace.LastLook count patience) asks act outcome = Loads Word.State (left_last asks count) act outcome
Does (RwWriterPlace.Count Leaver.GivenUp) asks act outcome = CountsOne act outcome
Does (RwWriterPlace.WakeOne Leaver.GivenUp) asks act outcome = (act ≡ Act.Woke Wake.One) × (outcome ≡ Then.GoesOn)
Does (RwWriterPlace.WakeAll Leaver.GivenUp) asks act outcome = (act ≡ Act.Woke Wake.All) × (outcome ≡ Then.Answers Answer.Interrupted)
Does place asks act outcome = Unit {0}

-- it is the next of a writer with these own events
abbrev IsNextOf : {T : Type 0} → RwWriterPlace → List (Event T) → Type 0
IsNextOf {T} place own = (act : Act T) (outcome : Then T) → Does place (keeps_asking own) act outcome → WriterStep (keeps_asking own) (write_spins_in true own) (step_before own) act outcome

-- What is kept at each place: of a reader what its latest step told, of a writer that the step there is its next.
abbrev HasSeen : {T : Type 0} → RwWriterPlace → PendingCall T → Option HoldKind → Type 0
HasSeen RwWriterPlace.TryReadLook c hold = last_of is_step c.own ≡ None
HasSeen (RwWriterPlace.TryRead seen to) c hold = open_at lets_readers_in (seen_last Word.State c.own) ≡ Some seen
HasSeen (RwWriterPlace.ReadLook patience) c hold = open_at lets_readers_in (seen_last Word.State c.own) ≡ None
HasSeen (RwWriterPlace.Read seen to patience) c hold = open_at lets_readers_in (seen_last Word.State c.own) ≡ Some seen
HasSeen RwWriterPlace.TryWrite c hold = last_of is_step c.own ≡ None
HasSeen (RwWriterPlace.WriteLook patience) c hold = IsNextOf (RwWriterPlace.WriteLook patience) c.own
HasSeen (RwWriterPlace.Enter seen patience) c hold = (latest_outcome c.own ≡ Then.GoesOn) × IsNextOf (RwWriterPlace.Enter seen patience) c.own
HasSeen (RwWriterPlace.Mark seen to patience) c hold = (latest_outcome c.own ≡ Then.GoesOn) × IsNextOf (RwWriterPlace.Mark seen to patience) c.own
HasSeen (RwWriterPlace.Unmark seen to) c hold = (latest_outcome c.own ≡ Then.GoesOn) × IsNextOf (RwWriterPlace.Unmark seen to) c.own
HasSeen (RwWriterPlace.LoadCounter patience) c hold = (latest_outcome c.own ≡ Then.GoesOn) × IsNextOf (RwWriterPlace.LoadCounter patience) c.own
HasSeen (RwWriterPlace.LastLook count patience) c hold = (latest_outcome c.own ≡ Then.GoesOn) × IsNextOf (RwWriterPlace.LastLook count patience) c.own
HasSeen (RwWriterPlace.Count Leaver.GivenUp) c hold = (latest_outcome c.own ≡ Then.GoesOn) × IsNextOf (RwWriterPlace.Count Leaver.GivenUp) c.own
HasSeen (RwWriterPlace.WakeOne Leaver.GivenUp) c hold = (latest_outcome c.own ≡ Then.GoesOn) × IsNextOf (RwWriterPlace.WakeOne Leaver.GivenUp) c.own
HasSeen (RwWriterPlace.WakeAll Leaver.GivenUp) c hold = (latest_outcome c.own ≡ Then.GoesOn) × IsNextOf (RwWriterPlace.WakeAll Leaver.GivenUp) c.own
HasSeen place c hold = Unit {0}

-- Where a call begins.

begins_unseen : {T : Type 0} (call : Call T) (place : RwWriterPlace) (hold : Option HoldKind) → rw_writer_begins call ≡ Some place → HasSeen {T = T} place (record { call = call; own = [] }) hold
begins_unseen call place hold h1 = grind (arith, nat_tests, eqb-true, eqb-false)

-- Where a writer's step leads: P is its next.

abbrev Reaches : {T : Type 0} → Bool → (Act T → Then T → Type 0) → After T RwWriterPlace → Type 0
Reaches {T} asks P (After.At place) = (act : Act T) (outcome : Then T) → Does place asks act outcome → P act outcome
Reaches asks P other = Unit {0}

-- what it leads to follows, where P follows

look_reaches : (T : Type 0) (patience : Patience) (v : ℕ) → Reaches {T = T} patience.keep (λ act outcome. LookedAt patience.keep patience.spins v act outcome) (write_look patience v)
look_reaches T patience v = grind (arith, nat_tests, eqb-true, eqb-false)

last_reaches : (T : Type 0) (count : ℕ) (patience : Patience) (v : ℕ) → Reaches {T = T} patience.keep (λ act outcome. LookedAt patience.keep patience.spins v act outcome) (last_look count patience v)
last_reaches T count patience v = grind (arith, nat_tests, eqb-true, eqb-false)

-- an exchange to enter that failed
entered_reaches :
    (T : Type 0) (patience : Patience) (seen w : ℕ) (b : Bool) → Reaches {T = T} patience.keep (λ act outcome. ExchangedFrom patience.keep patience.spins seen (2 ^ 64 - 1) w b act outcome) (cond b (After.Ends Answer.Success) (write_refused patience w))
entered_reaches T patience seen w b = grind (arith, nat_tests, eqb-true, eqb-false)

-- one that sets the mark, or takes it away, is none to enter
mark_below : (seen to : ℕ) → Sets seen to → (to == 2 ^ 64 - 1) ≡ false
mark_below seen to sets = eqb_other to (2 ^ 64 - 1) (λ is. absurd (omega (arith, is, sets.1, sets.2)))

unmark_below : (seen to : ℕ) → Clears seen to → (to == 2 ^ 64 - 1) ≡ false
unmark_below seen to clears = eqb_other to (2 ^ 64 - 1) (λ is. absurd (omega (arith, is, clears.0, clears.2)))

unmark_marks_none : (seen to : ℕ) → Clears seen to → is_mark seen to ≡ false
unmark_marks_none seen to clears = no_mark seen to (λ more. absurd (omega (arith, more, clears.2)))

marked_reaches :
    (T : Type 0) (patience : Patience) (seen to w : ℕ) (b : Bool) → is_mark seen to ≡ true → (to == 2 ^ 64 - 1) ≡ false →
    Reaches {T = T} patience.keep (λ act outcome. ExchangedFrom patience.keep patience.spins seen to w b act outcome) (cond b (spins patience) (write_look patience w))
marked_reaches T patience seen to w b h1 h2 = grind (arith, nat_tests, eqb-true, eqb-false)

unmarked_reaches :
    (T : Type 0) (spun seen to w : ℕ) (b : Bool) → is_mark seen to ≡ false → (to == 2 ^ 64 - 1) ≡ false →
    Reaches {T = T} false (λ act outcome. ExchangedFrom false spun seen to w b act outcome) (cond b (After.At (RwWriterPlace.Count Leaver.GivenUp)) (unmarks_or_leaves w))
unmarked_reaches T spun seen to w b h1 h2 = grind (arith, nat_tests, eqb-true, eqb-false)

-- So it is kept of the call with one event more.

-- a step that is neither a load of the counter nor an answer, of a call with this patience
record IsStepOf {T : Type 0} (asks : Bool) (spins : ℕ) (own : List (Event T)) (act : Act T) : Type 0 where
  steps : is_step act ≡ true
  quiet : is_abort act ≡ false
  asking : keeps_asking own ≡ asks
  spun : write_spins_in (loads_count act) own ≡ spins

-- a writer's place
abbrev IsWriters : RwWriterPlace → Type 0
IsWriters (RwWriterPlace.WriteLook patience) = Unit {0}
IsWriters (RwWriterPlace.Enter seen patience) = Unit {0}
IsWriters (RwWriterPlace.Mark seen to patience) = Unit {0}
IsWriters (RwWriterPlace.Unmark seen to) = Unit {0}
IsWriters (RwWriterPlace.LoadCounter patience) = Unit {0}
IsWriters (RwWriterPlace.LastLook count patience) = Unit {0}
IsWriters (RwWriterPlace.Count Leaver.GivenUp) = Unit {0}
IsWriters (RwWriterPlace.WakeOne Leaver.GivenUp) = Unit {0}
IsWriters (RwWriterPlace.WakeAll Leaver.GivenUp) = Unit {0}
IsWriters other = ⊥

next_after :
    {T : Type 0} (asks : Bool) (spins : ℕ) (own : List (Event T)) (act : Act T) (number : ℕ) (place : RwWriterPlace) → IsStepOf asks spins own act →
    ((x : Act T) (o : Then T) → Does place asks x o → WriterStep asks spins (Some act) x o) → IsNextOf place (event number act Then.GoesOn ∷ own)
next_after asks spins own act number place h1 h2 = grind (arith, nat_tests, eqb-true, eqb-false)

seen_at :
    {T : Type 0} (asks : Bool) (spins : ℕ) (c : PendingCall T) (hold : Option HoldKind) (act : Act T) (number : ℕ) (place : RwWriterPlace) → IsStepOf asks spins c.own act → IsWriters place →
    ((x : Act T) (o : Then T) → Does place asks x o → WriterStep asks spins (Some act) x o) → HasSeen place (record { call = c.call; own = event number act Then.GoesOn ∷ c.own }) hold
seen_at asks spins c hold act number (RwWriterPlace.WriteLook patience) is writes reaches = next_after asks spins c.own act number (RwWriterPlace.WriteLook patience) is reaches
seen_at asks spins c hold act number (RwWriterPlace.Enter seen patience) is writes reaches = (refl, next_after asks spins c.own act number (RwWriterPlace.Enter seen patience) is reaches)
seen_at asks spins c hold act number (RwWriterPlace.Mark seen to patience) is writes reaches = (refl, next_after asks spins c.own act number (RwWriterPlace.Mark seen to patience) is reaches)
seen_at asks spins c hold act number (RwWriterPlace.Unmark seen to) is writes reaches = (refl, next_after asks spins c.own act number (RwWriterPlace.Unmark seen to) is reaches)
seen_at asks spins c hold act number (RwWriterPlace.LoadCounter patience) is writes reaches = (refl, next_after asks spins c.own act number (RwWriterPlace.LoadCounter patience) is reaches)
seen_at asks spins c hold act number (RwWriterPlace.LastLook count patience) is writes reaches = (refl, next_after asks spins c.own act number (RwWriterPlace.LastLook count patience) is reaches)
seen_at asks spins c hold act number (RwWriterPlace.Count Leaver.GivenUp) is writes reaches = (refl, next_after asks spins c.own act number (RwWriterPlace.Count Leaver.GivenUp) is reaches)
seen_at asks spins c hold act number (RwWriterPlace.WakeOne Leaver.GivenUp) is writes reaches = (refl, next_after asks spins c.own act number (RwWriterPlace.WakeOne Leaver.GivenUp) is reaches)
seen_at asks spins c hold act number (RwWriterPlace.WakeAll Leaver.GivenUp) is writes reaches = (refl, next_after asks spins c.own act number (RwWriterPlace.WakeAll Leaver.GivenUp) is reaches)
seen_at asks spins c hold act number other is writes reaches = absurd writes

-- where it goes on at a writer's place, and stands only to look again
abbrev StaysWriting : {T : Type 0} → After T RwWriterPlace → Type 0
StaysWriting (After.At place) = IsWriters place
StaysWriting (After.Waits (RwWriterPlace.WriteLook patience) told) = Unit {0}
StaysWriting (After.Waits other told) = ⊥
StaysWriting (After.Chooses place old) = ⊥
StaysWriting (After.Ends answer) = Unit {0}

seen_after :
    {T : Type 0} (asks : Bool) (spins : ℕ) (c : PendingCall T) (hold : Option HoldKind) (act : Act T) (number : ℕ) (next : RwWriterPlace) (a : After T RwWriterPlace) → IsStepOf asks spins c.own act → StaysWriting a →
    Reaches asks (WriterStep asks spins (Some act)) a → place_after a ≡ Some next → HasSeen next (record { call = c.call; own = event number act (outcome_of a) ∷ c.own }) hold
seen_after {T} asks spins c hold act number next (After.At place) is writes reaches to =
    subst (λ p. HasSeen {T = T} p (record { call = c.call; own = event number act Then.GoesOn ∷ c.own }) hold) (some_same place next to) (seen_at asks spins c hold act number place is writes reaches)
seen_after {T} asks spins c hold act number next (After.Waits (RwWriterPlace.WriteLook patience) told) is writes reaches to =
    subst (λ p. HasSeen {T = T} p (record { call = c.call; own = event number act (Then.Waits told) ∷ c.own }) hold) (some_same (RwWriterPlace.WriteLook patience) next to) (λ x o does. rw is.steps does)
seen_after asks spins c hold act number next (After.Waits other told) is writes reaches to = absurd writes
seen_after asks spins c hold act number next (After.Chooses place old) is writes reaches to = absurd writes
seen_after asks spins c hold act number next (After.Ends answer) is writes reaches to = absurd cc

-- what a writer's look leads to is a writer's

stays : (T : Type 0) → HoldsOn {T = T} StaysWriting
stays T = record { looks = λ _. tt; loads = λ _. tt; marks = λ _ _ _. tt; unmarks = λ _ _. tt; enters = λ _ _. tt; leaves = tt }

-- Where a reader's step leads.

try_read_seen :
    {T : Type 0} (c : PendingCall T) (hold : Option HoldKind) (v : ℕ) (e : Event T) (next : RwWriterPlace) (b : Bool) → open_at lets_readers_in (seen_last Word.State (e ∷ c.own)) ≡ cond b (Some v) None →
    place_after {T = T} (cond b (After.At (RwWriterPlace.TryRead v (v + 2))) (After.Ends Answer.Interrupted)) ≡ Some next → HasSeen next (record { call = c.call; own = e ∷ c.own }) hold
try_read_seen c hold v e next b h1 h2 = grind (arith, nat_tests, eqb-true, eqb-false)

read_seen :
    {T : Type 0} (patience : Patience) (c : PendingCall T) (hold : Option HoldKind) (v : ℕ) (e : Event T) (next : RwWriterPlace) (b : Bool) → open_at lets_readers_in (seen_last Word.State (e ∷ c.own)) ≡ cond b (Some v) None →
    place_after {T = T} (cond b (After.At (RwWriterPlace.Read v (v + 2) patience)) (within RwWriterPlace.ReadLook (refused patience v))) ≡ Some next → HasSeen next (record { call = c.call; own = e ∷ c.own }) hold
read_seen patience c hold v e next b h1 h2 = grind (arith, nat_tests, eqb-true, eqb-false)

enter_seen :
    {T : Type 0} (patience : Patience) (c : PendingCall T) (hold : Option HoldKind) (seen to w number : ℕ) (outcome : Then T) (next : RwWriterPlace) (done : Bool) →
    place_after {T = T} (cond done (After.Ends Answer.Success) (read_look patience w)) ≡ Some next → HasSeen next (record { call = c.call; own = event number (Act.Exchange Word.State seen to w done) outcome ∷ c.own }) hold
enter_seen patience c hold seen to w number outcome next true is = absurd cc
enter_seen patience c hold seen to w number outcome next false is = read_seen patience c hold w (event number (Act.Exchange Word.State seen to w false) outcome) next (lets_readers_in w) refl is

-- a call that tries once ends with its exchange
tried_once : (T : Type 0) (b : Bool) (next : RwWriterPlace) → place_after {T = T} (cond b (After.Ends Answer.Success) (After.Ends Answer.Interrupted)) ≡ Some next → ⊥
tried_once T b next h1 = grind (arith, nat_tests, eqb-true, eqb-false)

-- Each row of the table.

-- what a release leads to, of which nothing is kept here
released_seen : {T : Type 0} (c : PendingCall T) (hold : Option HoldKind) (told : Option ℕ) (next : RwWriterPlace) → place_after {T = T} (released told) ≡ Some next → HasSeen next c hold
released_seen c hold told next h1 = grind (arith, nat_tests, eqb-true, eqb-false)

count_seen : {T : Type 0} (who : Leaver) (c : PendingCall T) (hold : Option HoldKind) (old put number : ℕ) (next : RwWriterPlace) → RwWriterPlace.WakeOne who ≡ next → HasSeen next (record { call = c.call; own = event {T = T} number (Act.Add Word.Counter old put) Then.GoesOn ∷ c.own }) hold
count_seen who c hold old put number next h1 = grind (arith, nat_tests, eqb-true, eqb-false)

wake_seen : {T : Type 0} (c : PendingCall T) (hold : Option HoldKind) (number : ℕ) → HasSeen (RwWriterPlace.WakeAll Leaver.GivenUp) (record { call = c.call; own = event {T = T} number (Act.Woke Wake.One) Then.GoesOn ∷ c.own }) hold
wake_seen c hold number = (refl, λ act outcome does. does)

steps_seen :
    {T : Type 0} (place : RwWriterPlace) (c : PendingCall T) (hold left : Option HoldKind) (memory : Word → ℕ) (number : ℕ) (next : RwWriterPlace) → AtRwWriter place c hold → HasSpunAt place c hold →
    place_after {T = T} (rw_writer_table.after place (value_told {T = T} (carried_out (rw_writer_table.intent place hold) memory))) ≡ Some next →
    HasSeen next (record { call = c.call; own = event number (step_at rw_writer_table place hold memory).act (step_at rw_writer_table place hold memory).outcome ∷ c.own }) left
steps_seen RwWriterPlace.TryReadLook c hold left memory number next at spun is =
    try_read_seen c left (memory Word.State) (event number (Act.Load Word.State (memory Word.State)) (step_at rw_writer_table RwWriterPlace.TryReadLook hold memory).outcome) next (lets_readers_in (memory Word.State)) refl is
steps_seen {T} (RwWriterPlace.TryRead seen to) c hold left memory number next at spun is = absurd (tried_once T (memory Word.State == seen) next is)
steps_seen {T} (RwWriterPlace.ReadLook patience) c hold left memory number next at spun is =
    read_seen patience c left (memory Word.State) (event number (Act.Load Word.State (memory Word.State)) (step_at rw_writer_table (RwWriterPlace.ReadLook patience) hold memory).outcome) next (lets_readers_in (memory Word.State)) refl is
steps_seen {T} (RwWriterPlace.Read seen to patience) c hold left memory number next at spun is =
    enter_seen patience c left seen to (memory Word.State) number (step_at rw_writer_table (RwWriterPlace.Read seen to patience) hold memory).outcome next (memory Word.State == seen) is
steps_seen {T} RwWriterPlace.TryWrite c hold left memory number next at spun is = absurd (tried_once T (memory Word.State == 0) next is)
steps_seen {T} (RwWriterPlace.WriteLook patience) c hold left memory number next at spun is =
    let v = memory Word.State in
    let act : Act T = Act.Load Word.State v in
    seen_after patience.keep patience.spins c left act number next (write_look patience v) (record { steps = refl; quiet = refl; asking = spun.1.2; spun = spun.1.0 }) (of_look StaysWriting (stays T) patience v) (look_reaches T patience v) is
steps_seen {T} (RwWriterPlace.Enter seen patience) c hold left memory number next at spun is =
    let w = memory Word.State in
    let act : Act T = Act.Exchange Word.State seen (2 ^ 64 - 1) w (w == seen) in
    seen_after patience.keep patience.spins c left act number next (cond (w == seen) (After.Ends Answer.Success) (write_refused patience w)) (record { steps = refl; quiet = refl; asking = spun.1.2; spun = spun.1.0 })
    (either StaysWriting (w == seen) (After.Ends Answer.Success) (write_refused patience w) tt (of_refused StaysWriting (stays T) patience w)) (entered_reaches T patience seen w (w == seen)) is
steps_seen {T} (RwWriterPlace.Mark seen to patience) c hold left memory number next at spun is =
    let w = memory Word.State in
    let act : Act T = Act.Exchange Word.State seen to w (w == seen) in
    seen_after patience.keep patience.spins c left act number next (cond (w == seen) (spins patience) (write_look patience w)) (record { steps = refl; quiet = refl; asking = spun.1.2; spun = spun.1.0 })
    (either StaysWriting (w == seen) (spins patience) (write_look patience w) (of_spins StaysWriting (stays T) patience) (of_look StaysWriting (stays T) patience w)) (marked_reaches T patience seen to w (w == seen) spun.2 (mark_below seen to at.3)) is
steps_seen {T} (RwWriterPlace.Unmark seen to) c hold left memory number next at spun is =
    let w = memory Word.State in
    let act : Act T = Act.Exchange Word.State seen to w (w == seen) in
    seen_after false (write_spins_in false c.own) c left act number next (cond (w == seen) (After.At (RwWriterPlace.Count Leaver.GivenUp)) (unmarks_or_leaves w)) (record { steps = refl; quiet = refl; asking = spun.1.0; spun = refl })
    (either StaysWriting (w == seen) (After.At (RwWriterPlace.Count Leaver.GivenUp)) (unmarks_or_leaves w) tt (of_unmarks StaysWriting (stays T) w)) (unmarked_reaches T (write_spins_in false c.own) seen to w (w == seen) (unmark_marks_none seen to at.3) (unmark_below seen to at.3)) is
steps_seen {T} (RwWriterPlace.LoadCounter patience) c hold left memory number next at spun is =
    let count = memory Word.Counter in
    let act : Act T = Act.Load Word.Counter count in
    seen_after patience.keep patience.spins c left act number next (After.At (RwWriterPlace.LastLook count patience)) (record { steps = refl; quiet = refl; asking = spun.1.3 ∙ sym spun.1.4; spun = spun.1.0 ∙ sym spun.1.1 }) tt (λ x o does. does) is
steps_seen {T} (RwWriterPlace.LastLook count patience) c hold left memory number next at spun is =
    let v = memory Word.State in
    let act : Act T = Act.Load Word.State v in
    seen_after patience.keep patience.spins c left act number next (last_look count patience v) (record { steps = refl; quiet = refl; asking = spun.1.3 ∙ sym spun.1.4; spun = spun.1.0 ∙ sym spun.1.1 }) (of_last_look StaysWriting (stays T) count patience v tt) (last_reaches T count patience v) is
steps_seen {T} RwWriterPlace.Release c hold left memory number next at spun is = released_seen _ left (value_told {T = T} (carried_out (rw_writer_table.intent RwWriterPlace.Release hold) memory)) next is
steps_seen {T} (RwWriterPlace.Count who) c hold left memory number next at spun is = count_seen who c left (memory Word.Counter) ((memory Word.Counter + 1) % 2 ^ 64) number next (some_same (RwWriterPlace.WakeOne who) next is)
steps_seen {T} (RwWriterPlace.WakeOne Leaver.Reader) c hold left memory number next at spun is = absurd cc
steps_seen {T} (RwWriterPlace.WakeOne Leaver.Writer) c hold left memory number next at spun is = subst (λ p. HasSeen {T = T} p (record { call = c.call; own = event number (Act.Woke Wake.One) Then.GoesOn ∷ c.own }) left) (some_same (RwWriterPlace.WakeAll Leaver.Writer) next is) tt
steps_seen {T} (RwWriterPlace.WakeOne Leaver.GivenUp) c hold left memory number next at spun is =
    subst (λ p. HasSeen {T = T} p (record { call = c.call; own = event number (Act.Woke Wake.One) Then.GoesOn ∷ c.own }) left) (some_same (RwWriterPlace.WakeAll Leaver.GivenUp) next is) (wake_seen c left number)
steps_seen {T} (RwWriterPlace.WakeAll Leaver.Reader) c hold left memory number next at spun is = absurd cc
steps_seen {T} (RwWriterPlace.WakeAll Leaver.Writer) c hold left memory number next at spun is = absurd cc
steps_seen {T} (RwWriterPlace.WakeAll Leaver.GivenUp) c hold left memory number next at spun is = absurd cc

-- Where an answer leads: only a call that looks next has asked.

answers_seen :
    {T : Type 0} (place : RwWriterPlace) (c : PendingCall T) (hold : Option HoldKind) (action : WaitAction) (number : ℕ) → HasSeen place c hold → answer_fault (latest_outcome c.own) ≡ None →
    HasSeen {T = T} (rw_writer_answered place action) (record { call = c.call; own = event number (Act.Answered action) Then.GoesOn ∷ c.own }) hold
answers_seen place c hold action number h1 h2 = grind (arith, nat_tests, eqb-true, eqb-false)

chooses_seen :
    {T : Type 0} (place : RwWriterPlace) (c : PendingCall T) (hold : Option HoldKind) (choice : Option T) (number : ℕ) → HasSeen place c hold → choose_fault (latest_outcome c.own) ≡ None →
    HasSeen {T = T} place (record { call = c.call; own = event number (Act.Chosen choice) Then.GoesOn ∷ c.own }) hold
chooses_seen place c hold choice number h1 h2 = grind (arith, nat_tests, eqb-true, eqb-false)

-- What is kept of a call: where it is, how often it has spun, what it has done where it leaves, and that its step is the next.
abbrev IsKnown : {T : Type 0} → RwWriterPlace → PendingCall T → Option HoldKind → Type 0
IsKnown place c hold = IsAnswering place c hold × HasSpunAt place c hold

abbrev IsReady : {T : Type 0} → RwWriterPlace → PendingCall T → Option HoldKind → Type 0
IsReady place c hold = IsKnown place c hold × HasSeen place c hold

known_kept : {T : Type 0} → IsKept {T = T} rw_writer_table IsKnown
known_kept = both_kept rw_writer_table IsAnswering HasSpunAt answering_kept spun_kept

ready_kept : {T : Type 0} → IsKept {T = T} rw_writer_table IsReady
ready_kept {T} =
    record {
      begins = λ call place hold is allowed. (known_kept.begins call place hold is allowed, begins_unseen {T = T} call place hold is);
      steps = λ place c hold memory number next ready free is. (known_kept.steps place c hold memory number next ready.0 free is, steps_seen place c hold _ memory number next ready.0.0.0 ready.0.1 is);
      answers = λ place c hold action number ready waits. (known_kept.answers place c hold action number ready.0 waits, answers_seen place c hold action number ready.1 waits);
      chooses = λ place c hold choice number ready stands. (known_kept.chooses place c hold choice number ready.0 stands, chooses_seen place c hold choice number ready.1 stands);
    }

-- How each step leaves its call, by its tests.

-- So each step is the next.

-- by what the call has done that leaves

-- a writer's step, by what it does and how it leaves the call, for a call that asks as its patience says

next_step :
    {T : Type 0} (place : RwWriterPlace) (c : PendingCall T) (hold : Option HoldKind) (memory : Word → ℕ) → IsReady place c hold →
    RwWriterStep {T = T} c.call c.own (step_at rw_writer_table place hold memory).act (step_at rw_writer_table place hold memory).outcome
next_step place c hold memory h1 = grind (arith, nat_tests, eqb-true, eqb-false)

pub each_steps : {T : Type 0} (z : Arithmetic T) (parties : ℕ) (past : List (Event T)) → IsPast z rw_writer_table parties past → StepsAs RwWriterStep past
each_steps z parties past run = steps_as z rw_writer_table parties IsReady RwWriterStep ready_kept next_step past run

-- A call that waits for nobody has fewer steps left at each place.

abbrev rest_at : RwWriterPlace → Option ℕ
rest_at RwWriterPlace.TryReadLook = Some 2
rest_at (RwWriterPlace.TryRead seen to) = Some 1
rest_at RwWriterPlace.TryWrite = Some 1
rest_at RwWriterPlace.Release = Some 4
rest_at (RwWriterPlace.Count Leaver.Reader) = Some 2
rest_at (RwWriterPlace.Count Leaver.Writer) = Some 3
rest_at (RwWriterPlace.WakeOne Leaver.Reader) = Some 1
rest_at (RwWriterPlace.WakeOne Leaver.Writer) = Some 2
rest_at (RwWriterPlace.WakeAll Leaver.Reader) = Some 1
rest_at (RwWriterPlace.WakeAll Leaver.Writer) = Some 1
rest_at other = None

begun_at : {T : Type 0} (call : Call T) (place : RwWriterPlace) (steps : ℕ) → rw_writer_begins call ≡ Some place → rw_writer_most call ≡ Some steps → (left : ℕ) × (rest_at place ≡ Some left) × (left ≤ steps)
begun_at call place steps h1 h2 = grind (arith, nat_tests, eqb-true, eqb-false)

goes_at :
    (T : Type 0) (place next : RwWriterPlace) (told : Option ℕ) (left : ℕ) → rest_at place ≡ Some left → place_after (rw_writer_after {T = T} place told) ≡ Some next → (fewer : ℕ) × (rest_at next ≡ Some fewer) × (fewer < left)
goes_at T place next told left h1 h2 = grind (arith, nat_tests, eqb-true, eqb-false)

some_at : (place : RwWriterPlace) (left : ℕ) → rest_at place ≡ Some left → 0 < left
some_at place left h1 = grind (arith, nat_tests, eqb-true, eqb-false)

answered_at : (place : RwWriterPlace) (action : WaitAction) → rest_at (rw_writer_answered place action) ≡ rest_at place
answered_at place action = grind (arith, nat_tests, eqb-true, eqb-false)

descends : {T : Type 0} → Descends {T = T} rw_writer_table rw_writer_most rest_at
descends {T} = record { begins = begun_at; goes = goes_at T; some = some_at; answered = answered_at; chosen = λ place choice. refl }

pub each_ends : {T : Type 0} (z : Arithmetic T) (parties : ℕ) (past : List (Event T)) → IsPast z rw_writer_table parties past → EndsWithin rw_writer_most past
each_ends z parties past run = ends_within rw_writer_table rw_writer_most rest_at descends z parties past run
