-- Whenever the rule holds, all passes are the parties of a run that says what they count.
use Rattle.running_model.proofs.Names.{ℕ, List, Word, Event, Model, Played, PlaysAndCounts, IsOfARun, nat_tests, eqb-true, eqb-false, arith}
use mathlib.Core.Option as maybe

pub of_a_run : {M Q V C P S : Type 0} (m : Model V P) (names : List Word) (agree : List ℕ → List (maybe.Option S) → C → Type 0) (follow : List (Event V) → C → Type 0) (words : List ℕ) (homes : List (maybe.Option S)) (p : Played M Q V C) →
    PlaysAndCounts m names agree follow words homes p → IsOfARun m follow p
of_a_run m names agree follow words homes p h1 = grind (arith, nat_tests, eqb-true, eqb-false)
