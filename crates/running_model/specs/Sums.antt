-- Counts that are a sum over the acts of a run.
use Rattle.std.specs.Prelude.{◌≡◌, ℕ, ◌+◌, if◌then◌else◌, List, [], ◌∷◌, Option, None}
use Rattle.running_model.specs.Names.{Act, Event, HoldKind, PendingCall, call_of, holds_of, hold_taken, Table, IsTally, ap, sym, ◌∙◌, arith, nat_tests, eqb-true, eqb-false}
use Rattle.running_model.specs.Holding.{is_kind}
use Rattle.running_model.specs.Words.{IsOnNoWord, on_no_word}
use Rattle.running_model.specs.Passes.{StaysOnNoWord}

-- `count` tells what an act counts, by the call under way whose act it is.
module _ {V C : Type 0} (first : C) (add : C → C → C) (count : Act V → Option (PendingCall V) → C) where
  -- what the acts of a run count together
  abbrev pub sum_in : List (Event V) → C
  sum_in [] = first
  sum_in (e ∷ past) = add (count e.act (call_of e.party past)) (sum_in past)

  abbrev pub IsSumOf : List (Event V) → C → Type 0
  IsSumOf past counts = counts ≡ sum_in past

  -- acts on no word count nothing
  pub same_sum : (none : C) (core : C → C) → IsTally none add core → ((act : Act V) (pending : Option (PendingCall V)) → IsOnNoWord act → count act pending ≡ none) → StaysOnNoWord IsSumOf
  same_sum none core laws nothing past e counts quiet is = is ∙ sym (ap (λ (c : C). add c (sum_in past)) (nothing e.act (call_of e.party past) quiet) ∙ laws.unit (sum_in past))

  -- what a party counts by its act, all count
  pub next_sum : (none : C) (core : C → C) → IsTally none add core → (past : List (Event V)) (e : Event V) (before after rest : C) → after ≡ add (count e.act (call_of e.party past)) before → IsSumOf past (add before rest) → IsSumOf (e ∷ past) (add after rest)
  next_sum none core h1 past e before after rest h2 h3 = grind (arith, nat_tests, eqb-true, eqb-false)

-- Grants: a call is granted with the act that takes a hold.

pub numbers_add_up : IsTally 0 (λ n m. n + m) (λ _. 0)
numbers_add_up = record { unit = λ n. omega arith; swap = λ n m. omega arith; group = λ n m k. omega arith; copy = λ n. omega arith }

-- two numbers add up, each by itself
pub pairs_add_up : {C : Type 0} (pair : ℕ → ℕ → C) (first second : C → ℕ) → ((n m : ℕ) → first (pair n m) ≡ n) → ((n m : ℕ) → second (pair n m) ≡ m) → ((t : C) → pair (first t) (second t) ≡ t) →
    IsTally (pair 0 0) (λ t u. pair (first t + first u) (second t + second u)) (λ _. pair 0 0)
pairs_add_up pair first second h1 h2 h3 = grind (arith, nat_tests, eqb-true, eqb-false)

-- what takes no hold grants none
pub no_kind : (kind : HoldKind) → ◌≡◌ {A = ℕ} (if is_kind kind None then 1 else 0) 0
no_kind kind = grind (arith, nat_tests, eqb-true, eqb-false)

module _ {V P : Type 0} (t : Table V P) (kind : HoldKind) where
  -- whether an act of a call takes a hold of this kind, as a number
  abbrev pub grants_by : Act V → Option (PendingCall V) → ℕ
  grants_by act pending = if is_kind kind (hold_taken t act pending) then 1 else 0

  -- how often calls were granted such a hold in a run
  abbrev pub grants_in : List (Event V) → ℕ
  grants_in past = sum_in 0 (λ n m. n + m) grants_by past

  no_grants_by : (act : Act V) (pending : Option (PendingCall V)) → IsOnNoWord act → grants_by act pending ≡ 0
  no_grants_by act pending = let none = no_kind kind in on_no_word (λ (a : Act V). grants_by a pending ≡ 0) (λ call. none) (λ action. none) (λ choice. none) (λ wake. none) none (λ value. none) act

  pub same_grants : (past : List (Event V)) (e : Event V) (n : ℕ) → IsOnNoWord e.act → n ≡ grants_in past → n ≡ grants_in (e ∷ past)
  same_grants past e n quiet is = same_sum 0 (λ n m. n + m) grants_by 0 (λ _. 0) numbers_add_up no_grants_by past e n quiet is

  pub next_grants : (past : List (Event V)) (e : Event V) (before after rest : ℕ) → after ≡ grants_by e.act (call_of e.party past) + before → before + rest ≡ grants_in past → after + rest ≡ grants_in (e ∷ past)
  next_grants = next_sum 0 (λ n m. n + m) grants_by 0 (λ _. 0) numbers_add_up

-- acts on no word take no hold, and end none
pub quiet_holds : {V P : Type 0} (t : Table V P) (past : List (Event V)) (e : Event V) → IsOnNoWord e.act → holds_of t (e ∷ past) ≡ holds_of t past
quiet_holds t past e h1 = grind (arith, nat_tests, eqb-true, eqb-false)
