-- What contracts see of the words of an object that plays a model.
use Rattle.std.specs.Prelude.{ℕ, List}
use Rattle.running_model.specs.Names.{Pass, Sights, Event, Act, Call, view}
use Rattle.atomic_table.specs.Seated.{TableId}
use Rattle.running_passes.specs.declared.origin.Origin.{Origin}
use Rattle.running_passes.specs.declared.words.Word.{Word}
use Rattle.running_passes.specs.Objects as of_words
use Rattle.running_model.specs.declared.played.Played.{Played}
use Rattle.running_model.specs.declared.stage.Stage.{Stage}
use Rattle.running_model.specs.Models.{Model}
use Rattle.running_model.specs.Plays.{Coming}
use Rattle.running_model.specs.Passes.{SteppedByAct}

module _ {K M P V C A : Type 0} where
  -- what the passes of these words come from
  abbrev pub origin : Stage K M P V C A → Origin K (Played M P V C) A
  origin s = of_words.origin s.words

  abbrev pub id_of : Stage K M P V C A → TableId
  id_of s = of_words.id_of s.words

  abbrev pub IsPassOf : Stage K M P V C A → Pass (Played M P V C) → Type 0
  IsPassOf s p = of_words.IsPassOf s.words p

  -- the key that the rule and the table read
  abbrev pub key_of : Stage K M P V C A → K
  key_of s = of_words.key_of s.words

  -- how many words there are
  abbrev pub count_of : Stage K M P V C A → ℕ
  count_of s = of_words.count_of s.words

  -- the word at this index
  abbrev pub IsWordOf : Stage K M P V C A → ℕ → Word K (Played M P V C) → Type 0
  IsWordOf s i word = of_words.IsWordOf s.words i word

  -- what a step of the pass tells, under the object's key
  abbrev pub SteppedOn : (K → Model V P) → (C → C → C) → (K → List (Event V) → C → Type 0) → (Act V → Sights → Sights) → (K → List (Event V) → P → Act V → Call V → C → C) → Coming V → Stage K M P V C A → Pass (Played M P V C) → ℕ → Pass (Played M P V C) → Type 0
  SteppedOn model add follow sees after coming s p found q = SteppedByAct (model (key_of s)) add (follow (key_of s)) sees (after (key_of s)) coming (view p) found (view q)
