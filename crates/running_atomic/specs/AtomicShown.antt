-- What contracts see of an atomic and its pass, and what a call changes in a pass.
use Rattle.std.specs.Prelude.{◌≡◌, ℕ, List, ◌++◌, codes, Option, Some, None}
use Rattle.running_atomic.specs.Names.{Call, Answer, Arithmetic, Pass, IsWhole, IsSamePass, view, part_of, Parties, HasCalled, parties_of, counts_of, counted, IsPassOf, key_of, Held, Writing, RegisterAct, answer_to, Part, Content, AtomicAct}
use Rattle.running_atomic.specs.declared.calls.Atomic.{Atomic}
use Rattle.running_atomic.specs.declared.pass.AtomicPass.{AtomicPass}
use Rattle.running_atomic.specs.declared.shown.AtomicShown.{AtomicShown}
use Rattle.running_atomic.specs.AtomicModel.{atomic_model}
use Rattle.running_atomic.specs.AtomicParties.{StandsAtRun}
use Rattle.running_atomic.specs.AtomicRule.{value_of, act_in, history_in}
use Rattle.running_atomic.specs.AtomicSteps.{PlayedAtomic, Acts, Joins, IsLast, IsSettled}

-- the pass inside, between two calls
abbrev pub pass_in : {T : Type 0} → AtomicPass T → Pass (PlayedAtomic T)
pass_in p = p.pass

abbrev pub part_of_atomic : {T : Type 0} → AtomicPass T → Part
part_of_atomic p = (view (pass_in p)).part

-- the parties of the model that it is
abbrev pub parties_in : {T : Type 0} → AtomicPass T → Parties T
parties_in p = parties_of (pass_in p)

module _ {T A : Type 0} where
  abbrev pub IsAtomicPass : Atomic T A → AtomicPass T → Type 0
  IsAtomicPass atomic p = IsPassOf atomic.stage (pass_in p)

  -- the value that it was made with
  abbrev pub opening_of : Atomic T A → T
  opening_of atomic = key_of atomic.stage

-- how often each act of the history is an own one of the pass
abbrev pub own_of : {T : Type 0} → AtomicPass T → List ℕ
own_of p = (counts_of (pass_in p)).heard.own

-- the value that was loaded
abbrev pub loaded_in : {T : Type 0} → AtomicShown T → T
loaded_in shown = shown.value

module _ {T : Type 0} (z : Arithmetic T) where
  -- the history as far as the pass has seen it, the first act first
  abbrev pub history_of : AtomicPass T → List (RegisterAct T)
  history_of p = history_in z (counts_of (pass_in p)).heard

  -- within a call
  abbrev pub HasActedAt : T → RegisterAct T → Answer T → Pass (PlayedAtomic T) → Pass (PlayedAtomic T) → Type 0
  HasActedAt opening a answer p q = IsSamePass p q × Acts z opening a answer (counted p) (counted q)

  -- This act was made, and answered so. The pass has now seen one history: it begins with all that the pass had seen, the act is its
  -- last, and the pass's own one more.
  abbrev pub HasActed : T → RegisterAct T → Answer T → AtomicPass T → AtomicPass T → Type 0
  HasActed opening a answer p q = HasActedAt opening a answer (pass_in p) (pass_in q)

  -- what was seen is one history that begins with what each of the two had seen, and the own acts are both's
  abbrev pub HasJoined : AtomicPass T → AtomicPass T → AtomicPass T → Type 0
  HasJoined a b both = Joins z (counted (pass_in a)) (counted (pass_in b)) (counted (pass_in both))

  -- with the whole pass: its history is its own acts, and the value is the register's after it
  abbrev pub IsLastOf : T → AtomicPass T → T → Type 0
  IsLastOf opening p value = IsWhole (part_of_atomic p) → IsLast z opening (counts_of (pass_in p)).heard value

  -- and after a run in which no other parties are than the pass's own; and its history is that run's
  abbrev pub IsLastInRun : T → AtomicPass T → T → Type 0
  IsLastInRun opening p value = IsWhole (part_of_atomic p) → StandsAtRun z opening (parties_in p) (history_of p) value

  -- within a call: a write hold stands, and the value is this
  pub record IsHolding (value : T) (p : Pass (PlayedAtomic T)) : Type 0 where
    pub words : Content
    pub on : (counts_of p).hold ≡ Writing words words
    pub value_is : value_of z words ≡ value

  -- within a call: so it does now, and nothing else changed but what was seen on the way
  pub record HasTaken (value : T) (p q : Pass (PlayedAtomic T)) : Type 0 where
    pub same : IsSamePass p q
    pub part : part_of q ≡ part_of p
    pub heard : (counts_of q).heard ≡ (counts_of p).heard
    pub holding : IsHolding value q

  -- within a call: the lock is still held, and the act was made that leaves the value as it is, and answered so
  pub record HasCompared (opening : T) (a : AtomicAct) (value : T) (p q : Pass (PlayedAtomic T)) : Type 0 where
    pub acted : HasActedAt opening (act_in z a) (answer_to z (act_in z a) value) p q
    pub on : IsSettled (counts_of q).hold

  -- There is a run of the model, which keeps its law, in which a party of the pass has just been answered so by this call. It is the one
  -- call that the pass has made since, as a party that is new; and it has no hold now.
  abbrev pub HasPlayed : T → Call T → Answer T → AtomicPass T → AtomicPass T → Type 0
  HasPlayed opening call answer p q = HasCalled (atomic_model z opening) call answer None (parties_in p) (parties_in q)

-- what a helper, a loop or a closure leaves of a pass: it is the same, and as much of the whole
pub record HasStayed {T : Type 0} (p q : AtomicPass T) : Type 0 where
  pub same : IsSamePass (pass_in p) (pass_in q)
  pub part : part_of_atomic q ≡ part_of_atomic p

-- within a call: a hold was got, and nothing else changed but what was seen on the way
pub record HasGot {T : Type 0} (P : Held Content → Type 0) (p q : Pass (PlayedAtomic T)) : Type 0 where
  pub same : IsSamePass p q
  pub part : part_of q ≡ part_of p
  pub heard : (counts_of q).heard ≡ (counts_of p).heard
  pub on : P (counts_of q).hold

-- nothing changed but what was seen on the way
pub record IsStill {T : Type 0} (p q : Pass (PlayedAtomic T)) : Type 0 where
  pub same : IsSamePass p q
  pub part : part_of q ≡ part_of p
  pub tally : counts_of q ≡ counts_of p

-- what is printed of a value, by its type's name, and by what its type prints of it
abbrev pub shown_text : List ℕ → Option (List ℕ) → Option (List ℕ)
shown_text name None = None
shown_text name (Some value) = Some (codes "Atomic<" ++ (name ++ (codes "> { value: " ++ (value ++ codes " }"))))
