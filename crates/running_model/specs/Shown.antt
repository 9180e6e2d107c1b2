-- Which word of which object closures see.
use Rattle.std.specs.Prelude.{ℕ}
use Rattle.running_passes.specs.declared.words.Word.{Word}
use Rattle.atomic_table.specs.Seated.{TableId}

abbrev pub object_shown : {K T : Type 0} → Word K T → TableId
object_shown word = word.shared.now.table_id

abbrev pub index_shown : {K T : Type 0} → Word K T → ℕ
index_shown word = word.index

-- its object, and which of its words it is
abbrev pub which : {K T : Type 0} → Word K T → TableId × ℕ
which word = (object_shown word, index_shown word)
