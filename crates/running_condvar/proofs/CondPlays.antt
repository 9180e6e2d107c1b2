-- The steps of a condition variable's count are those of its table.
use Rattle.running_condvar.proofs.Names.{Word, Call, Answer, Intent, Coming, Beginning, ComesBy, MayStep, Went, Slot, Parties, all_of, ℕ, List, [], ◌∷◌, None, refl, is_over, IsOver, waiters_model, IsInside, IsOut, Plays}
use Rattle.model_waiters.specs.declared.WaitersPlace.{WaitersPlace}
use Rattle.running_model.specs.Plays.{Aside}

abbrev Comes : Coming ℕ → Call ℕ → WaitersPlace → List (Slot ℕ) → Parties ℕ → Type 0
Comes way call place done p = ComesBy waiters_model way call place None done p

-- the look of a notify

value_begins : (p : Parties ℕ) → Comes (Beginning Call.Value) Call.Value WaitersPlace.Look (all_of p) p
value_begins p = (refl, record { may = record { begins = refl; free = refl; values = tt }; new = refl; others = refl })

pub may_look : (p : Parties ℕ) → MayStep waiters_model (Word.Waiters ∷ []) (Beginning Call.Value) 0 (λ w. Intent.Load w) p
may_look p = record { call = Call.Value; place = WaitersPlace.Look; hold = None; done = all_of p; comes = value_begins p; name = Word.Waiters; named = refl; intends = refl; on = refl }

pub tells : (found : ℕ) (p q : Parties ℕ) → Went waiters_model (Beginning Call.Value) p found q → Plays Call.Value (Answer.Number found) p q
tells found p q went = went Call.Value WaitersPlace.Look None (all_of p) (value_begins p)

pub look_is_over : (found : ℕ) (p q : Parties ℕ) → Plays Call.Value (Answer.Number found) p q → IsOver waiters_model q
look_is_over found p q played = is_over waiters_model Call.Value (Answer.Number found) None (all_of p) q played

-- a wait: it counts itself in,

wait_begins : (p : Parties ℕ) → Comes (Beginning Call.Wait) Call.Wait WaitersPlace.CountIn (all_of p) p
wait_begins p = (refl, record { may = record { begins = refl; free = refl; values = tt }; new = refl; others = refl })

pub may_count_in : (p : Parties ℕ) → MayStep waiters_model (Word.Waiters ∷ []) (Beginning Call.Wait) 0 (λ w. Intent.Add w 1) p
may_count_in p = record { call = Call.Wait; place = WaitersPlace.CountIn; hold = None; done = all_of p; comes = wait_begins p; name = Word.Waiters; named = refl; intends = refl; on = refl }

pub goes_in : (found : ℕ) (p q : Parties ℕ) → Went waiters_model (Beginning Call.Wait) p found q → IsInside (all_of p) q
goes_in found p q went = went Call.Wait WaitersPlace.CountIn None (all_of p) (wait_begins p)

-- ends what it does while it is so,

has_ended : (done : List (Slot ℕ)) (p : Parties ℕ) → IsInside done p → Comes Aside Call.Wait WaitersPlace.CountOut done p
has_ended done p at = record { from = WaitersPlace.Inside; at = at; aside = tt; leads = refl }

-- and counts itself out

pub may_count_out : (done : List (Slot ℕ)) (p : Parties ℕ) → IsInside done p → MayStep waiters_model (Word.Waiters ∷ []) Aside 0 (λ w. Intent.Subtract w 1) p
may_count_out done p at = record { call = Call.Wait; place = WaitersPlace.CountOut; hold = None; done = done; comes = has_ended done p at; name = Word.Waiters; named = refl; intends = refl; on = refl }

pub goes_out : (found : ℕ) (done : List (Slot ℕ)) (p q : Parties ℕ) → IsInside done p → Went waiters_model Aside p found q → IsOut done q
goes_out found done p q at went = went Call.Wait WaitersPlace.CountOut None done (has_ended done p at)

pub wait_is_over : (done : List (Slot ℕ)) (p : Parties ℕ) → IsOut done p → IsOver waiters_model p
wait_is_over done p out = is_over waiters_model Call.Wait Answer.Done None done p out
