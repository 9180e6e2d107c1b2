-- What an event is, at any table: by its input, with the form of its input, and telling what the memory holds.
use Rattle.model_events.proofs.Names.{eqb-true, eqb-false, nat_tests, ◌≡◌, refl, ◌∙◌, ℕ, true, List, [], ◌∷◌, Option, Some, arith, Arithmetic, carried_out, value_told, place_after, Table, PendingCall, word_after, call_of, call_going_on, hold_of, word_in, HasForm, Move, stage_of, stage_after, step_at, move_of, is_step, IsPast, TellsMemory, is_apart, Lacks, WaitAction, Word, Call, Act, Event, Input, Then, HoldKind, Intent}

-- A step that is carried out.

pub carried_is_step : {T : Type 0} (intent : Intent T) (memory : Word → ℕ) → is_step (carried_out intent memory) ≡ true
carried_is_step intent memory = grind (arith, nat_tests, eqb-true, eqb-false)

-- its call has it as an event of its own
pub carried_goes_on :
    {T : Type 0} (intent : Intent T) (memory : Word → ℕ) (e : Event T) (c : PendingCall T) →
    call_going_on (carried_out intent memory) e (Some c) ≡ Some (record { call = c.call; own = e ∷ c.own })
carried_goes_on intent memory e c = grind (arith, nat_tests, eqb-true, eqb-false)

-- and goes on as the row says
pub carried_stage :
    {T P : Type 0} (t : Table T P) (place : P) (intent : Intent T) (memory : Word → ℕ) →
    stage_after t (carried_out intent memory) place ≡ place_after (t.after place (value_told (carried_out intent memory)))
carried_stage t place intent memory = grind (arith, nat_tests, eqb-true, eqb-false)

-- A fact of a move, by its input: a beginning, an answer, a choice, or the step at the place of the call under way.
pub by_move :
    {T P : Type 0} (t : Table T P) (pending : Option (PendingCall T)) (hold : Option HoldKind) (memory : Word → ℕ) (R : Option (PendingCall T) → Move T → Type 0) (input : Input T) (m : Move T) →
    ((call : Call T) → input ≡ Input.Begin call → R pending (record { act = Act.Begun call; outcome = Then.GoesOn })) →
    ((action : WaitAction) → input ≡ Input.Answer action → R pending (record { act = Act.Answered action; outcome = Then.GoesOn })) →
    ((choice : Option T) → input ≡ Input.Choose choice → R pending (record { act = Act.Chosen choice; outcome = Then.GoesOn })) →
    ((c : PendingCall T) (place : P) → input ≡ Input.Go → pending ≡ Some c → stage_of t c ≡ Some place → R (Some c) (step_at t place hold memory)) →
    move_of t pending hold memory input ≡ Some m → R pending m
by_move t pending hold memory R input m h1 h2 h3 h4 h5 = grind (arith, nat_tests, eqb-true, eqb-false)

pub tells_memory : {T P : Type 0} (z : Arithmetic T) (t : Table T P) (parties : ℕ) (past : List (Event T)) → IsPast z t parties past → TellsMemory t past
tells_memory z t parties past h1 = grind (arith, nat_tests, eqb-true, eqb-false)

-- A word that no step works on holds what it opened with.

apart_keeps : {T : Type 0} (word : Word) (intent : Intent T) (memory : Word → ℕ) (value : ℕ) → is_apart word intent ≡ true → word_after word (carried_out intent memory) value ≡ value
apart_keeps word intent memory value h1 = grind (arith, nat_tests, eqb-true, eqb-false)

pub lacked_word : {T P : Type 0} (z : Arithmetic T) (t : Table T P) (parties : ℕ) (word : Word) → Lacks t word → (past : List (Event T)) → IsPast z t parties past → word_in t past word ≡ t.opening word
lacked_word z t parties word lacks [] run = refl
lacked_word {T} z t parties word lacks (e ∷ past) run =
    by_move t (call_of e.party past) (hold_of t e.party past) (word_in t past) (λ (k : Option (PendingCall T)) (x : Move T). word_after word x.act (word_in t past word) ≡ word_in t past word)
    run.0.0 (record { act = e.act; outcome = e.then }) (λ call _. refl) (λ action _. refl) (λ choice _. refl)
    (λ c place _ same at. apart_keeps word (t.intent place (hold_of t e.party past)) (word_in t past) (word_in t past word) (lacks place (hold_of t e.party past)))
    run.0.1.moved
    ∙ lacked_word z t parties word lacks past run.1

-- Form: an event has the form of its input.
pub form_of_move :
    {T P : Type 0} (t : Table T P) (pending : Option (PendingCall T)) (hold : Option HoldKind) (memory : Word → ℕ) (input : Input T) (m : Move T) →
    move_of t pending hold memory input ≡ Some m → HasForm input m.act
form_of_move t pending hold memory input m h1 = grind (arith, nat_tests, eqb-true, eqb-false)
