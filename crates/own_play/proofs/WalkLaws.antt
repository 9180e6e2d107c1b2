-- What a step makes of a walk.
use Rattle.std.proofs.Common.{◌≡◌, ℕ, zero, suc, ◌+◌, ◌-◌, ◌*◌, ◌^◌, ◌<◌, ◌≤◌, Bool, true, false, List, [], ◌∷◌, Option, Some, None, IfSome, Result, Ok, Err, refl, ap, sym, subst, ◌∙◌, arith, if◌then◌else◌}
use Rattle.std.proofs.lemmas.Bool.{eqb-true, eqb-false}
use Rattle.std.proofs.lemmas.Bool.Decides.{nat_tests}
use Rattle.own_play.specs.Names.{left_after, goes_on, line_fault_of, lines_of, words_of, Event, StepFault, Command, Task, LineFault, Lock}
use Rattle.sync_play.specs.Player.{steps_left}
use Rattle.own_play.specs.Machine.{State, state_of, with_state, step}
use Rattle.own_play.specs.Walk.{Walk, ended, seen_then, stopped, input_of, run_walk, task_walk, asked_of, lines_walk, IsTurn}
use Rattle.own_play.specs.declared.machine.Machine.{Machine}

module _ (lock : Lock) (s : State) (party : ℕ) (m : Machine) (line : ℕ) (others : State → Walk) where
  one_less : (n : ℕ) → suc n - 1 ≡ n
  one_less n = omega arith

  abbrev task_left : Task ℕ → Event ℕ → Walk
  task_left old e = task_walk lock line party (left_after old (record { event = e; times = 1 })) (state_of m) others

  made : (old : Task ℕ) (e : Event ℕ) → 0 < steps_left old → step lock s party (input_of old) ≡ Ok (e, state_of m) → task_walk lock line party old s others ≡ seen_then line e (state_of m) (task_left old e)
  made (Task.Give input) e some is = rw is refl
  made (Task.Go (suc n)) e some is = rw (is, one_less n) refl
  made (Task.Run (suc n)) e some is = rw (is, one_less n) (by (goes_on e.then))
    where
      by : (b : Bool) → seen_then line e (state_of m) (if b then run_walk lock line party n (state_of m) others else others (state_of m)) ≡ seen_then line e (state_of m) (task_walk lock line party (if b then Task.Run n else Task.Go 0) (state_of m) others)
      by true = refl
      by false = refl
  made (Task.Go zero) e some is = absurd (omega (arith, some))
  made (Task.Run zero) e some is = absurd (omega (arith, some))

  pub makes : (old : Task ℕ) (r : Result (Event ℕ) StepFault) (e : Event ℕ) → 0 < steps_left old → with_state r m ≡ step lock s party (input_of old) → r ≡ Ok e → task_walk lock line party old s others ≡ seen_then line e (state_of m) (task_left old e)
  makes old r e some steps is = made old e some (sym steps ∙ ap (λ (r : Result (Event ℕ) StepFault). with_state r m) is)

  refused : (old : Task ℕ) (fault : StepFault) → 0 < steps_left old → step lock s party (input_of old) ≡ Err fault → task_walk lock line party old s others ≡ stopped line (line_fault_of fault)
  refused (Task.Give input) fault some is = rw is refl
  refused (Task.Go (suc n)) fault some is = rw is refl
  refused (Task.Run (suc n)) fault some is = rw is refl
  refused (Task.Go zero) fault some is = absurd (omega (arith, some))
  refused (Task.Run zero) fault some is = absurd (omega (arith, some))

  pub refuses : (old : Task ℕ) (r : Result (Event ℕ) StepFault) (fault : StepFault) → 0 < steps_left old → with_state r m ≡ step lock s party (input_of old) → r ≡ Err fault → task_walk lock line party old s others ≡ stopped line (line_fault_of fault)
  refuses old r fault some steps is = refused old fault some (sym steps ∙ ap (λ (r : Result (Event ℕ) StepFault). with_state r m) is)

-- The next line.
module _ (lock : Lock) (number : ℕ) (lines : List (List ℕ)) (first rest : List ℕ) (s : State) (are : lines ≡ first ∷ lines_of rest) where
  pub line_asks : (command : Command ℕ) → Ok command ≡ asked_of lock (words_of first) →
      lines_walk lock number lines s ≡ task_walk lock number command.party command.task s (λ after. lines_walk lock (number + 1) (lines_of rest) after)
  line_asks command is = rw (are, ← is) refl

  pub line_fails : (fault : LineFault) → Err fault ≡ asked_of lock (words_of first) → lines_walk lock number lines s ≡ stopped number fault
  line_fails fault is = rw (are, ← is) refl

pub lines_end : (lock : Lock) (number : ℕ) (lines : List (List ℕ)) (s : State) → lines ≡ [] → lines_walk lock number lines s ≡ ended
lines_end lock number lines s none = rw none refl

-- What is told of a command, of a walk that goes on with it.
module _ (lock : Lock) (s first s' : State) (left new : Command ℕ) (line : ℕ) (others : State → Walk) (w : Walk) (same : s ≡ first) (was : w ≡ task_walk lock line left.party left.task first others) where
  abbrev here : w ≡ task_walk lock line left.party left.task s others
  here = was ∙ ap (λ (s : State). task_walk lock line left.party left.task s others) (sym same)

  pub steps_on : (told : Option (Event ℕ)) (e : Event ℕ) → told ≡ Some e → IsTurn lock s left s' new (Ok told) → w ≡ seen_then line e s' (task_walk lock line new.party new.task s' others)
  steps_on told e some turn = let at : IsTurn lock s left s' new (Ok (Some e)) = subst (λ (t : Option (Event ℕ)). IsTurn lock s left s' new (Ok t)) some turn in here ∙ at line others

  pub passes : (told : Option (Event ℕ)) → told ≡ None → IsTurn lock s left s' new (Ok told) → (w ≡ others first) × (s' ≡ first)
  passes told none turn =
      let at : IsTurn lock s left s' new (Ok None) = subst (λ (t : Option (Event ℕ)). IsTurn lock s left s' new (Ok t)) none turn in
      (here ∙ at.0 line others ∙ ap others same, at.1 ∙ same)

  pub stops : (fault : LineFault) → IsTurn lock s left s' new (Err fault) → w ≡ stopped line fault
  stops fault turn = here ∙ turn line others

pub fewer_steps : (new old : Command ℕ) (told : Option (Event ℕ)) (e : Event ℕ) (lines most : ℕ) → told ≡ Some e → steps_left old.task + lines * 2 ^ 64 ≤ most → IfSome told (λ _. steps_left new.task < steps_left old.task) → steps_left new.task + lines * 2 ^ 64 < most
fewer_steps new old told e lines most h1 h2 h3 = grind (arith, nat_tests, eqb-true, eqb-false)
