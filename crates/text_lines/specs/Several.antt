-- A text of several objects: the lines that name them, and what the others ask, of which object.
use Rattle.std.specs.Prelude.{ℕ, ◌+◌, ◌-◌, ◌^◌, Bool, true, false, ◌&&◌, ◌||◌, ◌==◌, not, nat_le, List, [], ◌∷◌, take, drop, slice_get, Option, Some, None, is_none, Result, Ok, Err, codes}
use Rattle.std.specs.Borrow.{Bor}
use Rattle.std.specs.List.{position}
use Rattle.text_lines.specs.Names.{bytes_eq, Object}
use Rattle.text_lines.specs.declared.command.Form.{Form}
use Rattle.text_lines.specs.declared.command.Task.{Task}
use Rattle.text_lines.specs.declared.fault.LineFault.{LineFault}
use Rattle.text_lines.specs.declared.several.RoomCommand.{RoomCommand}
use Rattle.text_lines.specs.Call.{named}
use Rattle.text_lines.specs.Command.{verbs, task_by, call_if, party_of}
use Rattle.text_lines.specs.Fault.{◌>>=◌}
use Rattle.text_lines.specs.Lexer.{number_within, only_number, find}
use Rattle.text_lines.specs.Numerals.{Numerals}
use Rattle.text_lines.specs.Objects.{object_named, opened_with, calls_of}

-- `parties <n>`, the first line of such a text

abbrev pub is_several : List (List ℕ) → Bool
is_several [] = false
is_several (word ∷ words) = bytes_eq word (codes "parties")

-- how many share the objects
abbrev pub parties_of : List (List ℕ) → Result ℕ LineFault
parties_of [] = Err LineFault.NoObject
parties_of (word ∷ words) = only_number 1 64 words

-- `let <name> <object> [value]`, the lines after it

-- the place of the first of this name
abbrev pub place_of : List (List ℕ) → List ℕ → Option ℕ
place_of names name = position (λ other. bytes_eq other name) names

abbrev pub begins_with_letter : List ℕ → Bool
begins_with_letter [] = false
begins_with_letter (byte ∷ bytes) = nat_le 97 byte && nat_le byte 122

-- words of a question's conditions
abbrev pub is_taken : List ℕ → Bool
is_taken name = bytes_eq name (codes "and") || (bytes_eq name (codes "race") || (bytes_eq name (codes "word") || (bytes_eq name (codes "counter") || (bytes_eq name (codes "waiters") || bytes_eq name (codes "value")))))

-- the place of the first `.`, which parts a name from its call
abbrev pub dot_of : List ℕ → Option ℕ
dot_of word = position (λ byte. byte == 46) word

-- a name is new, and can stand before a call
abbrev pub may_name : List (List ℕ) → List ℕ → Bool
may_name names name = begins_with_letter name && (not (is_taken name) && (is_none (dot_of name) && is_none (place_of names name)))

-- the name may be given, and the object is opened by the words after it
abbrev pub let_as : {T : Type 0} → Numerals T → Bool → List ℕ → List (List ℕ) → Option (Object Unit) → Result (List ℕ × Object T) LineFault
let_as numerals may name words None = Err LineFault.NoObject
let_as numerals false name words (Some object) = Err LineFault.BadLine
let_as numerals true name words (Some object) = opened_with numerals words object >>= λ opened. Ok (name, opened)

-- by the words after `let`
abbrev pub let_of : {T : Type 0} → Numerals T → List (List ℕ) → List (List ℕ) → Result (List ℕ × Object T) LineFault
let_of numerals names [] = Err LineFault.NoObject
let_of numerals names (name ∷ []) = Err LineFault.NoObject
let_of numerals names (name ∷ object ∷ words) = let_as numerals (may_name names name) name words (object_named numerals object)

-- a name and an object, as they are told
abbrev pub as_told : {A B E : Type 0} → Result (Bor A × B) E → Result (A × B) E
as_told (Ok named) = Ok (named.0.now, named.1)
as_told (Err fault) = Err fault

-- The other lines.

-- the name before the first `.`, and the call after it
abbrev pub cut_there : List ℕ → Option ℕ → Option (List ℕ × List ℕ)
cut_there word None = None
cut_there word (Some at) = Some (take at word, drop (at + 1) word)

abbrev pub cut_name : List ℕ → Option (List ℕ × List ℕ)
cut_name word = cut_there word (dot_of word)

abbrev pub call_at : {T : Type 0} → Numerals T → Option (Object T) → List ℕ → List (List ℕ) → Result (Task T) LineFault
call_at numerals None call words = Err LineFault.NoObject
call_at numerals (Some o) call words = call_if numerals (named call (calls_of o)) words

-- the call with its values, at the object of this place
abbrev pub call_of_object : {T : Type 0} → Numerals T → List (Object T) → Option ℕ → List ℕ → List (List ℕ) → Result (Option ℕ × Task T) LineFault
call_of_object numerals objects None call words = Err LineFault.NoObject
call_of_object numerals objects (Some k) call words = call_at numerals (slice_get objects k) call words >>= λ task. Ok (Some k, task)

abbrev pub named_task : {T : Type 0} → Numerals T → List (List ℕ) → List (Object T) → Option (List ℕ × List ℕ) → List (List ℕ) → Result (Option ℕ × Task T) LineFault
named_task numerals names objects None words = Err LineFault.BadLine
named_task numerals names objects (Some parts) words = call_of_object numerals objects (place_of names parts.0) parts.1 words

abbrev pub room_task_if : {T : Type 0} → Numerals T → List (List ℕ) → List (Object T) → Option (Form T) → List ℕ → List (List ℕ) → Result (Option ℕ × Task T) LineFault
room_task_if numerals names objects (Some form) verb words = task_by numerals form words >>= λ task. Ok (None, task)
room_task_if numerals names objects None verb words = named_task numerals names objects (cut_name verb) words

-- what a verb asks with the words after it: those of every object, of the party's call; and `<name>.<call>` a call of the object of that name
unfoldable pub room_task_of : {T : Type 0} → Numerals T → List (List ℕ) → List (Object T) → List ℕ → List (List ℕ) → Result (Option ℕ × Task T) LineFault
room_task_of numerals names objects verb words = room_task_if numerals names objects (find verb verbs) verb words

-- The party, the object, if one is named, and what is asked. Words that are unknown and a wrong count of them come first, then a name that is none,
-- then a bad number; a line without words asks nothing.
unfoldable pub room_command_of : {T : Type 0} → Numerals T → List (List ℕ) → List (Object T) → List (List ℕ) → Result (Option (RoomCommand T)) LineFault
room_command_of numerals names objects [] = Ok None
room_command_of numerals names objects (party ∷ []) = Err LineFault.BadLine
room_command_of numerals names objects (party ∷ verb ∷ words) = do
  asked ← room_task_of numerals names objects verb words
  number ← number_within 0 (2 ^ 64 - 1) party
  from_zero ← party_of number
  Ok (Some (record { party = from_zero; named = asked.0; task = asked.1 }))
