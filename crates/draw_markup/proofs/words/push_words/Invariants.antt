use Rattle.draw_markup.proofs.Names.{◌≡◌, ◌++◌, flat_map, string_bytes, shown}
use Rattle.draw_markup.proofs.words.push_words.Given as goal

abbrev pub invariant-loop-char : goal.invariant-loop-char
invariant-loop-char l = string_bytes l.bytes ≡ string_bytes l.initial.bytes ++ flat_map shown l.yielded
