-- Which object's word closures see.
use Rattle.running_guarded.specs.Names.{TableId}
use Rattle.running_guarded.specs.declared.word.GuardedWord.{GuardedWord}

abbrev pub object_shown : {T : Type 0} → GuardedWord T → TableId
object_shown word = word.shared.now.table_id
