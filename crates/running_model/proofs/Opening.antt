-- The words stand at a run in which nobody has made anything.
use Rattle.running_model.proofs.Names.{Word, Event, IsPast, ℕ, refl, List, [], Model, no_parties, AllHold, played, PlaysAndCounts}
use mathlib.Core.Option as maybe

pub opens :
    {M Q V C P S : Type 0} (m : Model V P) (names : List Word) (agree : List ℕ → List (maybe.Option S) → C → Type 0) (follow : List (Event V) → C → Type 0) (found : List ℕ) (homes : List (maybe.Option S)) (counts : C) →
    ((n : ℕ) (past : List (Event V)) → IsPast m.arithmetic m.table n past → m.law past) → AllHold names found m.table.opening → agree found homes counts → follow [] counts →
    PlaysAndCounts {M = M} {Q = Q} m names agree follow found homes (played no_parties counts)
opens m names agree follow found homes counts lawful opening agrees follows = record {
  played = record { parties = 0; past = []; run = tt; law = lawful 0 [] tt; hold = opening; each = λ q. refl };
  agrees = agrees;
  follows = follows;
}
