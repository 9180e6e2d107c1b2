-- A closure that runs once: where it begins and ends, and what the word tells of it, at any table whose word is a once's.
use Rattle.std.specs.Prelude.{◌≡◌, ◌≤◌, ℕ, ◌==◌, ◌↔◌, Bool, true, false, List, [], ◌∷◌, Option, Some, None, is_some, IfSome, MatchBool, MatchOption, if◌then◌else◌}
use Rattle.model_once.specs.Names.{Word, Act, Event, Then, Table, call_of, word_in, is_step, AtLast, is_done_exchange, is_exchange, acts_in, last_of}

-- a closure begins with an exchange that is done
abbrev pub is_begin : {T : Type 0} → Act T → Bool
is_begin act = is_done_exchange Word.State act

abbrev pub is_end : {T : Type 0} → Act T → Bool
is_end Act.Ended = true
is_end act = false

abbrev pub begins_in : {T : Type 0} → List (Event T) → ℕ
begins_in past = acts_in is_begin past

abbrev pub ends_in : {T : Type 0} → List (Event T) → ℕ
ends_in past = acts_in is_end past

-- the latest event ends a closure only where its own call began it, and it was the first to begin
abbrev pub EndsItsOwn : {T : Type 0} → List (Event T) → Type 0
EndsItsOwn [] = Unit {0}
EndsItsOwn (e ∷ past) = MatchBool (is_end e.act) (AtLast is_begin (λ before. begins_in before ≡ 0) e.party past) (Unit {0})

abbrev pub is_load : {T : Type 0} → Act T → Bool
is_load (Act.Load word seen) = true
is_load act = false

-- a call that waits does so for a closure that has begun: the latest event is no look of a call that has made a step before, or one has
abbrev pub WaitsForAnother : {T : Type 0} → List (Event T) → Type 0
WaitsForAnother [] = Unit {0}
WaitsForAnother (e ∷ past) =
    MatchBool (is_load e.act) (MatchOption (call_of e.party past) ⊥ (λ c. IfSome (last_of is_step c.own) (λ before. 1 ≤ begins_in past))) (Unit {0})

-- a word that is 2 is so for good: the latest event leaves it
abbrev pub StaysTwo : {T P : Type 0} → Table T P → List (Event T) → Type 0
StaysTwo t [] = Unit {0}
StaysTwo t (e ∷ past) = word_in t past Word.State ≡ 2 → word_in t (e ∷ past) Word.State ≡ 2

-- The word: 0 until a closure begins, and 2 only once it has ended.
pub record TellsState {T P : Type 0} (t : Table T P) (past : List (Event T)) : Type 0 where
  pub begun : (word_in t past Word.State ≡ 0) ↔ (begins_in past ≡ 0)
  pub ended : word_in t past Word.State ≡ 2 → ends_in past ≡ 1
  pub known : word_in t past Word.State ≤ 2

-- The steps of a call that brings a closure, by its own before.

-- a look: a call that saw 2 is left so, and any other goes on
abbrev pub LooksForTwo : {T : Type 0} → Then T → Act T → Then T → Type 0
LooksForTwo complete (Act.Load Word.State seen) outcome = outcome ≡ (if seen == 2 then complete else Then.GoesOn)
LooksForTwo complete act outcome = ⊥

-- the exchange of 0 for 1, after which the call goes on
abbrev pub TriesToBegin : {T : Type 0} → Act T → Then T → Type 0
TriesToBegin (Act.Exchange Word.State from to found done) outcome = (from ≡ 0) × (to ≡ 1) × (outcome ≡ Then.GoesOn)
TriesToBegin act outcome = ⊥

-- the call has made its exchange
abbrev pub has_tried : {T : Type 0} → List (Event T) → Bool
has_tried own = is_some (last_of is_exchange own)

-- What follows the latest step: nothing, and so a look; a look, and so the exchange, if the call has not yet made it, and else another look; the
-- exchange, and so the closure's end where it was done, and a look where it failed; that end, and so the store of 2, which completes the call.
abbrev pub RunsOnce : {T : Type 0} → Then T → Bool → Option (Act T) → Act T → Then T → Type 0
RunsOnce complete tried None act outcome = LooksForTwo complete act outcome
RunsOnce complete tried (Some (Act.Load word seen)) act outcome = MatchBool tried (LooksForTwo complete act outcome) (TriesToBegin act outcome)
RunsOnce complete tried (Some (Act.Exchange word from to found true)) act outcome = (act ≡ Act.Ended) × (outcome ≡ Then.GoesOn)
RunsOnce complete tried (Some (Act.Exchange word from to found false)) act outcome = LooksForTwo complete act outcome
RunsOnce complete tried (Some Act.Ended) act outcome = (act ≡ Act.Store Word.State 2) × (outcome ≡ complete)
RunsOnce complete tried (Some other) act outcome = ⊥
