-- The steps of a once are those of its table.
use Rattle.running_once.proofs.Names.{MatchBool, Word, Call, Answer, Intent, OncePlace, once_intent, Slot, Parties, all_of, Coming, Going, Beginning, Aside, ComesBy, Led, HasCalled, MayStep, Went, ◌≡◌, ◌≢◌, ℕ, ◌==◌, Bool, true, false, refl, sym, subst, List, [], ◌∷◌, None, is_over, PlayedPass, parties_of, once_model, IsOver, IsToEnd, ComesToBegin, IsRunning, ComesToStay, HasLeft, arith, nat_tests, eqb-true, eqb-false}

abbrev Comes : Coming ℕ → Call ℕ → OncePlace → List (Slot ℕ) → Parties ℕ → Type 0
Comes way call place done p = ComesBy once_model way call place None done p

abbrev LedFrom : Call ℕ → OncePlace → ℕ → List (Slot ℕ) → Parties ℕ → Type 0
LedFrom call place found done q = Led once_model call place None found done q

-- how the calls begin

call_begins : (p : Parties ℕ) → Comes (Beginning Call.CallOnce) Call.CallOnce OncePlace.Look (all_of p) p
call_begins p = (refl, record { may = record { begins = refl; free = refl; values = tt }; new = refl; others = refl })

asking_begins : (p : Parties ℕ) → Comes (Beginning Call.IsCompleted) Call.IsCompleted OncePlace.IsCompleted (all_of p) p
asking_begins p = (refl, record { may = record { begins = refl; free = refl; values = tt }; new = refl; others = refl })

-- the looks that the table has

may_load : (way : Coming ℕ) (call : Call ℕ) (place : OncePlace) (done : List (Slot ℕ)) (p : Parties ℕ) → ◌≡◌ {A = Intent ℕ} (once_intent Word.State place) (Intent.Load Word.State) → Comes way call place done p →
    MayStep once_model (Word.State ∷ []) way 0 (λ w. Intent.Load w) p
may_load way call place done p intends comes = record { call = call; place = place; hold = None; done = done; comes = comes; name = Word.State; named = refl; intends = intends; on = refl }

pub may_stay : (done : List (Slot ℕ)) (p : Parties ℕ) → ComesToStay done p → MayStep once_model (Word.State ∷ []) Going 0 (λ w. Intent.Load w) p
may_stay done p at = may_load Going Call.CallOnce OncePlace.Stay done p refl at

-- `IsCompleted` answers by its look

pub asked : (flag : Bool) (found : ℕ) (p q : Parties ℕ) → MatchBool flag (found ≡ 2) (found ≢ 2) → Went once_model (Beginning Call.IsCompleted) p found q →
    HasCalled once_model Call.IsCompleted (Answer.Flag flag) None p q
asked flag found p q is went = grind (arith, nat_tests, eqb-true, eqb-false, went Call.IsCompleted OncePlace.IsCompleted None (all_of p) (asking_begins p))

pub asked_is_over : (found : ℕ) (p q : Parties ℕ) → Went once_model (Beginning Call.IsCompleted) p found q → IsOver once_model q
asked_is_over found p q went = is_over once_model Call.IsCompleted _ None (all_of p) q (went Call.IsCompleted OncePlace.IsCompleted None (all_of p) (asking_begins p))

-- a look that sees 2 ends a `CallOnce`, and any other leads to the exchange, or to a further look

pub leaves : (found : ℕ) (p q : Parties ℕ) → found ≡ 2 → Went once_model (Beginning Call.CallOnce) p found q → HasLeft (all_of p) q
leaves found p q two went = subst (λ n. LedFrom Call.CallOnce OncePlace.Look n (all_of p) q) two (went Call.CallOnce OncePlace.Look None (all_of p) (call_begins p))

pub comes_to_begin : (found : ℕ) (p q : Parties ℕ) → found ≢ 2 → Went once_model (Beginning Call.CallOnce) p found q → ComesToBegin (all_of p) q
comes_to_begin found p q other went = grind (arith, nat_tests, eqb-true, eqb-false, went Call.CallOnce OncePlace.Look None (all_of p) (call_begins p))

pub leaves_at_last : (found : ℕ) (done : List (Slot ℕ)) (p q : Parties ℕ) → found ≡ 2 → ComesToStay done p → Went once_model Going p found q → HasLeft done q
leaves_at_last found done p q two at went = subst (λ n. LedFrom Call.CallOnce OncePlace.Stay n done q) two (went Call.CallOnce OncePlace.Stay None done at)

-- the exchange: where it is done the closure runs, and else the call stays

pub may_begin : (done : List (Slot ℕ)) (p : Parties ℕ) (put : ℕ) → put ≡ 1 → ComesToBegin done p → MayStep once_model (Word.State ∷ []) Going 0 (λ w. Intent.Exchange w 0 put) p
may_begin done p put h1 h2 = grind (arith, nat_tests, eqb-true, eqb-false)

pub runs : (found : ℕ) (done : List (Slot ℕ)) (p q : Parties ℕ) → (found == 0) ≡ true → ComesToBegin done p → Went once_model Going p found q → IsRunning done q
runs found done p q h1 h2 h3 = grind (arith, nat_tests, eqb-true, eqb-false)

pub stays : (found : ℕ) (done : List (Slot ℕ)) (p q : Parties ℕ) → (found == 0) ≡ false → ComesToBegin done p → Went once_model Going p found q → ComesToStay done q
stays found done p q h1 h2 h3 = grind (arith, nat_tests, eqb-true, eqb-false)

-- the closure's end, and the store that follows it

pub is_to_end : (done : List (Slot ℕ)) (p : Parties ℕ) → IsRunning done p → IsToEnd once_model p
is_to_end done p at = record { call = Call.CallOnce; place = OncePlace.Run; hold = None; done = done; at = at; ends = refl }

pub runs_still : (done : List (Slot ℕ)) (p q : PlayedPass) → q ≡ p → IsRunning done (parties_of p) → IsRunning done (parties_of q)
runs_still done p q still at = subst (λ (r : PlayedPass). IsRunning done (parties_of r)) (sym still) at

has_run : (done : List (Slot ℕ)) (p : Parties ℕ) → IsRunning done p → Comes Aside Call.CallOnce OncePlace.Complete done p
has_run done p at = record { from = OncePlace.Run; at = at; aside = tt; leads = refl }

pub may_complete : (done : List (Slot ℕ)) (p : Parties ℕ) → IsRunning done p → MayStep once_model (Word.State ∷ []) Aside 0 (λ w. Intent.Store w 2) p
may_complete done p at = grind (arith, nat_tests, eqb-true, eqb-false, has_run done p at)

pub completes : (done : List (Slot ℕ)) (p q : Parties ℕ) → IsRunning done p → Went once_model Aside p 2 q → HasLeft done q
completes done p q at went = went Call.CallOnce OncePlace.Complete None done (has_run done p at)
