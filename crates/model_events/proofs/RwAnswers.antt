-- A lock with read and write holds answers by the hold: from its step at each place.
use Rattle.model_events.proofs.Names.{eqb-true, eqb-false, nat_tests, ◌≡◌, sym, ◌∙◌, ap, subst, ℕ, Bool, cond, List, [], ◌∷◌, Option, Some, None, arith, Arithmetic, outcome_of, place_after, Table, PendingCall, call_of, hold_of, hold_after, word_in, event, Move, stage_of, step_at, IsPast, kind_wanted, IsRwAnswer, IsAnswered, AnswersByHold, Word, Call, Act, Answer, Event, Then, HoldKind, After}
use Rattle.model_events.proofs.Holds.{hold_of_same}
use Rattle.model_events.proofs.Steps.{by_move}

-- a call is for the kind that its like is for
pub wants : {T : Type 0} (c : PendingCall T) (call : Call T) (kind : HoldKind) → c.call ≡ call → kind_wanted call ≡ Some kind → kind_wanted c.call ≡ Some kind
wants {T} c call kind is kinds = ap (λ (k : Call T). kind_wanted k) is ∙ kinds

-- a locking call that has its hold
pub granted :
    {T : Type 0} (HasUnlocked : List (Act T) → Type 0) (call : Call T) (done : List (Act T)) (hold : Option HoldKind) (kind : HoldKind) → kind_wanted call ≡ Some kind → hold ≡ Some kind →
    IsRwAnswer HasUnlocked call done hold Answer.Success
granted HasUnlocked call done hold kind h1 h2 = grind (arith, nat_tests, eqb-true, eqb-false)

-- one that has none
pub turned_away :
    {T : Type 0} (HasUnlocked : List (Act T) → Type 0) (call : Call T) (done : List (Act T)) (hold : Option HoldKind) (kind : HoldKind) → kind_wanted call ≡ Some kind → hold ≡ None →
    IsRwAnswer HasUnlocked call done hold Answer.Interrupted
turned_away HasUnlocked call done hold kind h1 h2 = grind (arith, nat_tests, eqb-true, eqb-false)

-- an `Unlock` that has done what makes one
pub unlocked :
    {T : Type 0} (HasUnlocked : List (Act T) → Type 0) (call : Call T) (done : List (Act T)) (hold : Option HoldKind) → call ≡ Call.Unlock → hold ≡ None → HasUnlocked done →
    IsRwAnswer HasUnlocked call done hold Answer.Done
unlocked HasUnlocked call done hold h1 h2 h3 = grind (arith, nat_tests, eqb-true, eqb-false)

-- a step that ends its call, if at all, with a refusal, and goes on to such places
abbrev pub IsTryOn : {T P : Type 0} → (P → Type 0) → After T P → Type 0
IsTryOn Goes (After.At place) = Goes place
IsTryOn Goes (After.Waits place seen) = Goes place
IsTryOn Goes (After.Chooses place old) = Goes place
IsTryOn Goes (After.Ends answer) = answer ≡ Answer.Interrupted

-- answers by the hold, where its call is a locking call without one
pub tries_on :
    {T P : Type 0} (HasUnlocked : List (Act T) → Type 0) (Goes : P → Type 0) (c : PendingCall T) (act : Act T) (hold : Option HoldKind) (kind : HoldKind) (a : After T P) → kind_wanted c.call ≡ Some kind → hold ≡ None → IsTryOn Goes a →
    IsAnswered HasUnlocked (Some c) act (outcome_of a) hold
tries_on HasUnlocked Goes c act hold kind a h1 h2 h3 = grind (arith, nat_tests, eqb-true, eqb-false)

-- an exchange of the lock's word that takes the hold where it is done, and else goes on
pub enters :
    {T P : Type 0} (HasUnlocked : List (Act T) → Type 0) (t : Table T P) (Goes : P → Type 0) (c : PendingCall T) (hold : Option HoldKind) (from to found : ℕ) (kind : HoldKind) (b : Bool) (a : After T P) →
    kind_wanted c.call ≡ Some kind → hold ≡ None → t.grant c.call from to ≡ Some kind → IsTryOn Goes a →
    IsAnswered HasUnlocked (Some c) (Act.Exchange Word.State from to found b) (outcome_of (cond b (After.Ends Answer.Success) a)) (hold_after t (Act.Exchange Word.State from to found b) (Some c) hold)
enters HasUnlocked t Goes c hold from to found kind b a h1 h2 h3 h4 = grind (arith, nat_tests, eqb-true, eqb-false)

-- What is kept of the own events of a call at its place, where a step leads.

abbrev pub LeadsTo : {T P : Type 0} → (P → List (Event T) → Option HoldKind → Type 0) → List (Event T) → Option HoldKind → ℕ → Act T → After T P → Type 0
LeadsTo At own hold number act (After.At place) = At place (event number act Then.GoesOn ∷ own) hold
LeadsTo At own hold number act (After.Waits place seen) = At place (event number act (Then.Waits seen) ∷ own) hold
LeadsTo At own hold number act (After.Chooses place old) = At place (event number act (Then.Chooses old) ∷ own) hold
LeadsTo At own hold number act (After.Ends answer) = Unit {0}

pub leads_on :
    {T P : Type 0} (At : P → List (Event T) → Option HoldKind → Type 0) (own : List (Event T)) (hold : Option HoldKind) (number : ℕ) (act : Act T) (next : P) (a : After T P) →
    LeadsTo At own hold number act a → place_after a ≡ Some next → At next (event number act (outcome_of a) ∷ own) hold
leads_on At own hold number act next a h1 h2 = grind (arith, nat_tests, eqb-true, eqb-false)

-- at every prefix, from the step at each place
pub answers_by_hold :
    {T P : Type 0} (z : Arithmetic T) (t : Table T P) (parties : ℕ) (HasUnlocked : List (Act T) → Type 0) →
    ((past : List (Event T)) (party : ℕ) (c : PendingCall T) (place : P) → IsPast z t parties past → call_of party past ≡ Some c → stage_of t c ≡ Some place →
    IsAnswered HasUnlocked (Some c) (step_at t place (hold_of t party past) (word_in t past)).act (step_at t place (hold_of t party past) (word_in t past)).outcome
    (hold_after t (step_at t place (hold_of t party past) (word_in t past)).act (Some c) (hold_of t party past))) →
    (past : List (Event T)) → IsPast z t parties past → AnswersByHold t HasUnlocked past
answers_by_hold z t parties HasUnlocked steps [] run = tt
answers_by_hold {T} {P} z t parties HasUnlocked steps (e ∷ past) run =
    subst (λ h. IsAnswered HasUnlocked (call_of e.party past) e.act e.then h) (sym (hold_of_same t e.party e.act e.then past))
    (by_move t (call_of e.party past) (hold_of t e.party past) (word_in t past)
    (λ (k : Option (PendingCall T)) (x : Move T). IsAnswered HasUnlocked k x.act x.outcome (hold_after t x.act k (hold_of t e.party past)))
    run.0.0 (record { act = e.act; outcome = e.then }) (λ call _. tt) (λ action _. tt) (λ choice _. tt)
    (λ c place _ called stage. steps past e.party c place run.1 called stage)
    run.0.1.moved)
