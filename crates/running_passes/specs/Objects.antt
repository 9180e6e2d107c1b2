-- What contracts see of an object's words.
use Rattle.std.specs.Prelude.{◌≡◌, ℕ, List, slice_index}
use mathlib.Core.Option as maybe
use Rattle.atomic_table.specs.Seated.{TableId}
use Rattle.running_passes.specs.declared.pass.Pass.{Pass}
use Rattle.running_passes.specs.declared.origin.Origin.{Origin}
use Rattle.running_passes.specs.declared.words.Words.{Words}
use Rattle.running_passes.specs.declared.words.Word.{Word}
use Rattle.running_passes.specs.Passes.{object_of}

module _ {K T A : Type 0} where
  -- what the passes of these words come from
  abbrev pub origin : Words K T A → Origin K T A
  origin w = w.origin

  -- the pass comes from there
  abbrev pub IsPassFrom : Origin K T A → Pass T → Type 0
  IsPassFrom o p = object_of p ≡ o.table.shared.table_id

  abbrev pub id_of : Words K T A → TableId
  id_of w = w.origin.table.shared.table_id

  abbrev pub IsPassOf : Words K T A → Pass T → Type 0
  IsPassOf w p = object_of p ≡ id_of w

  -- the key that the rule reads
  abbrev pub key_of : Words K T A → K
  key_of w = w.origin.table.shared.key

  -- how many words there are
  abbrev pub count_of : Words K T A → ℕ
  count_of w = w.origin.table.shared.table_id.words

  -- the word at this index
  abbrev pub IsWordOf : Words K T A → ℕ → Word K T → Type 0
  IsWordOf w i word = (word.shared.now.table_id ≡ id_of w) × (word.index ≡ i)

-- the rule holds at the end, and the word was this
pub record HasClosed {S T : Type 0} (agrees : List ℕ → List (maybe.Option S) → T → Type 0) (tally : T) (i found : ℕ) : Type 0 where
  pub words : List ℕ
  pub homes : List (maybe.Option S)
  pub rule : agrees words homes tally
  pub here : slice_index words i ≡ found

-- the rule holds at the end, and two words were these
pub record HaveClosed {S T : Type 0} (agrees : List ℕ → List (maybe.Option S) → T → Type 0) (tally : T) (i found j other : ℕ) : Type 0 where
  pub words : List ℕ
  pub homes : List (maybe.Option S)
  pub rule : agrees words homes tally
  pub here : slice_index words i ≡ found
  pub there : slice_index words j ≡ other
