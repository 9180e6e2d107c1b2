-- Slots that the seats of passes carry, by what these count.
use Rattle.std.specs.Prelude.{ℕ, List}
use Rattle.running_model.specs.Names.{Event, Word}
use mathlib.Core.Option as maybe
use Rattle.atomic_table.specs.Table as tables
use Rattle.atomic_table.specs.Table.{Valid, homes_after, carried_after}
use Rattle.running_model.specs.Models.{Model}
use Rattle.running_model.specs.declared.played.Played.{Played}
use Rattle.running_model.specs.Passes.{PlaysAndCounts}

-- Where the run says what all passes count before and after a step, and the slots are where the counts before it say, the step can move slots so
-- that they are where the counts after it say.
abbrev pub MovesByCounts : {V C S : Type 0} → (C → C → C) → (List (Event V) → C → Type 0) → (C → List (maybe.Option S) → Type 0) → (C → List (ℕ × S) → Type 0) → Type 0
MovesByCounts {V} {C} {S} add follow lies carries =
    (past later : List (Event V)) (before after rest : C) (homes : List (maybe.Option S)) (slots : List (ℕ × S)) → follow past (add before rest) → follow later (add after rest) → lies (add before rest) homes → carries before slots →
    (move : tables.Act S) × Valid homes slots move × lies (add after rest) (homes_after homes slots move) × carries after (carried_after slots move)

-- The words are those of a run in which the passes are parties. What these count together is what the run says, and says which slots are at home.
abbrev pub PlaysAndCarries : {M Q V C P S : Type 0} → Model V P → List Word → (List (Event V) → C → Type 0) → (C → List (maybe.Option S) → Type 0) → List ℕ → List (maybe.Option S) → Played M Q V C → Type 0
PlaysAndCarries m names follow lies = PlaysAndCounts m names (λ _ homes counts. lies counts homes) follow
