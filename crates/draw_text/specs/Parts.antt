-- A text, and behind it lines that tell its moves.
use Rattle.std.specs.Prelude.{◌≡◌, ℕ, Bool, true, false, ◌==◌, List, [], ◌∷◌, ◌++◌, if◌then◌else◌}
use Rattle.text_lines.specs.Lexer.{lines_of}

-- the line begins with `#`
abbrev pub is_told : List ℕ → Bool
is_told [] = false
is_told (byte ∷ line) = byte == 35

abbrev pub are_told : List (List ℕ) → Bool
are_told [] = true
are_told (line ∷ lines) = if is_told line then are_told lines else false

-- what is read is this text, and behind it nothing but lines that tell moves
pub record HasText (read text : List ℕ) : Type 0 where
  pub moves : List ℕ
  pub whole : read ≡ text ++ moves
  pub told : are_told (lines_of moves) ≡ true
