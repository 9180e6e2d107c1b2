-- A spin lock keeps its law at every prefix of every run.
use Rattle.std.proofs.lemmas.Bool.Decides.{nat_tests}
use Rattle.std.proofs.Common.{◌≡◌, ℕ, refl, true, false, is_some, List, [], ◌∷◌, Option, Some, None, ◌⊎◌, arith, ◌≤◌, ◌<◌}
use Rattle.std.specs.Prelude.{MatchBool, MatchOption}
use Rattle.std.proofs.lemmas.Bool.{eqb-true, eqb-false}
use Rattle.model_events.specs.Exports.{Arithmetic, place_after, same_word, PendingCall, call_of, holds_of, hold_of, word_in, event, Move, step_at, is_step, IsPast, Lacks, is_refusal}
use Rattle.model_events.specs.declared.{event.Call.Call, event.Event.Event, event.Word.Word, hold.HoldKind.HoldKind}
use Rattle.model_events.proofs.Exports.{by_move, tells_memory, IsKept, at_place, steps_as, Descends, ends_within, IsLock, IsLockIntent, IsFreeOrHeld, holds_after, lock_word, lock_exclusive}
use Rattle.model_spin.specs.declared.SpinPlace.{SpinPlace}
use Rattle.model_spin.specs.Table.{spin_table, spin_begins, spin_after}
use Rattle.model_spin.specs.Law.{SpinCause, is_unheld, IsLeft, SpinStep, IsHandedOn, CountsHolds, KeepsSpin, spin_most}

-- What is kept of a call at its place: which call it is, of one that makes a single step that it has made none, and of `Unlock` that its party has a hold.

abbrev pub AtSpin : {T : Type 0} → SpinPlace → PendingCall T → Option HoldKind → Type 0
AtSpin SpinPlace.TryLock c hold = (c.call ≡ Call.TryLock) × (c.own ≡ [])
AtSpin SpinPlace.Lock c hold = (c.call ≡ Call.Lock) ⊎ (c.call ≡ Call.BlockingLock)
AtSpin SpinPlace.Release c hold = (c.call ≡ Call.Unlock) × (is_some hold ≡ true) × (c.own ≡ [])

-- how a call goes on after its swap, by whether that found the lock free

pub spin_kept : {T : Type 0} → IsKept {T = T} spin_table AtSpin
spin_kept = grind (arith, nat_tests, eqb-true, eqb-false)

-- A spin lock is a lock for one.

lock_intent : {T : Type 0} (place : SpinPlace) (c : PendingCall T) (hold : Option HoldKind) → AtSpin place c hold → IsLockIntent {T = T} (spin_table.grant c.call 0 1) hold (spin_table.intent place hold)
lock_intent place c hold h1 = grind (arith, nat_tests, eqb-true, eqb-false)

pub spin_is_lock : {T : Type 0} (z : Arithmetic T) (parties : ℕ) → IsLock {T = T} z spin_table parties
spin_is_lock z parties =
    record {
      opens = refl;
      steps = λ past party c place run called stage. lock_intent place c (hold_of spin_table party past) (at_place z spin_table parties AtSpin spin_kept past run party c place called stage);
    }

-- What one more event tells.

pub record EventLaw {T : Type 0} (party : ℕ) (past : List (Event T)) (pending : Option (PendingCall T)) (m : Move T) : Type 0 where
  pub cause : MatchBool (is_refusal m.outcome) (MatchOption pending ⊥ (λ c. SpinCause c.call party (event party m.act m.outcome ∷ past))) (Unit {0})
  pub leaves : MatchBool (is_step m.act) (MatchOption pending ⊥ (λ c. IsLeft c.call (is_unheld (holds_of spin_table past)) m.outcome)) (Unit {0})
  pub hands_on : IsHandedOn party m.outcome (holds_of spin_table past) (holds_after spin_table party pending m.act (holds_of spin_table past))

step_law :
    {T : Type 0} (party : ℕ) (past : List (Event T)) (c : PendingCall T) (place : SpinPlace) (memory : Word → ℕ) → AtSpin place c (hold_of spin_table party past) →
    IsFreeOrHeld (memory Word.State) (holds_of spin_table past) → EventLaw party past (Some c) (step_at spin_table place (hold_of spin_table party past) memory)
step_law party past c place memory h1 h2 = grind (arith, nat_tests, eqb-true, eqb-false)

event_law : {T : Type 0} (z : Arithmetic T) (parties : ℕ) (past : List (Event T)) (e : Event T) → IsPast z spin_table parties (e ∷ past) → EventLaw e.party past (call_of e.party past) (record { act = e.act; outcome = e.then })
event_law {T} z parties past e run =
    by_move spin_table (call_of e.party past) (hold_of spin_table e.party past) (word_in spin_table past) (λ (k : Option (PendingCall T)) (m : Move T). EventLaw e.party past k m)
    run.0.0 (record { act = e.act; outcome = e.then })
    (λ call _. record { cause = tt; leaves = tt; hands_on = refl })
    (λ action _. record { cause = tt; leaves = tt; hands_on = refl })
    (λ choice _. record { cause = tt; leaves = tt; hands_on = refl })
    (λ c place _ called stage.
    step_law e.party past c place (word_in spin_table past) (at_place z spin_table parties AtSpin spin_kept past run.1 e.party c place called stage) (lock_word z spin_table parties (spin_is_lock z parties) past run.1))
    run.0.1.moved

-- each step is its call's next

spin_step :
    {T : Type 0} (place : SpinPlace) (c : PendingCall T) (hold : Option HoldKind) (memory : Word → ℕ) → AtSpin place c hold →
    SpinStep {T = T} c.call c.own (step_at spin_table place hold memory).act (step_at spin_table place hold memory).outcome
spin_step place c hold memory h1 = grind (arith, nat_tests, eqb-true, eqb-false)

-- and a call that waits for nobody has one step

abbrev spin_rest : SpinPlace → Option ℕ
spin_rest SpinPlace.TryLock = Some 1
spin_rest SpinPlace.Lock = None
spin_rest SpinPlace.Release = Some 1

spin_begun : {T : Type 0} (call : Call T) (place : SpinPlace) (steps : ℕ) → spin_begins call ≡ Some place → spin_most call ≡ Some steps → (left : ℕ) × (spin_rest place ≡ Some left) × (left ≤ steps)
spin_begun call place steps h1 h2 = grind (arith, nat_tests, eqb-true, eqb-false)

spin_goes : (T : Type 0) (place next : SpinPlace) (told : Option ℕ) (left : ℕ) → spin_rest place ≡ Some left → place_after (spin_after {T = T} place told) ≡ Some next → (fewer : ℕ) × (spin_rest next ≡ Some fewer) × (fewer < left)
spin_goes T place next told left h1 h2 = grind (arith, nat_tests, eqb-true, eqb-false)

spin_some : (place : SpinPlace) (left : ℕ) → spin_rest place ≡ Some left → 0 < left
spin_some place left h1 = grind (arith, nat_tests, eqb-true, eqb-false)

spin_descends : {T : Type 0} → Descends {T = T} spin_table spin_most spin_rest
spin_descends {T} = record { begins = spin_begun; goes = spin_goes T; some = spin_some; answered = λ place action. refl; chosen = λ place choice. refl }

counts_holds : {T : Type 0} (past : List (Event T)) → IsFreeOrHeld (word_in spin_table past Word.State) (holds_of spin_table past) → CountsHolds past
counts_holds past h1 = grind (arith, nat_tests, eqb-true, eqb-false)

pub keeps_spin : {T : Type 0} (z : Arithmetic T) (parties : ℕ) (past : List (Event T)) → IsPast z spin_table parties past → KeepsSpin past
keeps_spin z parties [] run =
    record {
      told = tt;
      exclusive = lock_exclusive 0 [] (lock_word z spin_table parties (spin_is_lock z parties) [] run);
      cause = tt;
      law = record { leaves = tt; steps = tt; within = λ party. tt; hands_on = tt; word = counts_holds [] (lock_word z spin_table parties (spin_is_lock z parties) [] run) };
    }
keeps_spin z parties (e ∷ past) run =
    let event = event_law z parties past e run in
    let held = lock_word z spin_table parties (spin_is_lock z parties) (e ∷ past) run in
    record {
      told = tells_memory z spin_table parties (e ∷ past) run;
      exclusive = lock_exclusive _ (holds_of spin_table (e ∷ past)) held;
      cause = event.cause;
      law = record { leaves = event.leaves; steps = steps_as z spin_table parties AtSpin SpinStep spin_kept spin_step (e ∷ past) run; within = ends_within spin_table spin_most spin_rest spin_descends z parties (e ∷ past) run; hands_on = event.hands_on; word = counts_holds (e ∷ past) held };
    }

-- a spin lock has no other word
pub spin_lacks : (T : Type 0) (word : Word) → same_word Word.State word ≡ false → Lacks {T = T} spin_table word
spin_lacks T word h1 = grind (arith, nat_tests, eqb-true, eqb-false)
