-- The calls of a text are those of the model: each has its name there, and what is printed of a call begins that call.
use Rattle.std.specs.Prelude.{◌≡◌, true, Ok, is_some}
use Rattle.sync_play.specs.Names.{Call, Input, Object, Arithmetic, CallValues, has_call, Task, name_of, calls_of, named, values_written, task_of, Numerals, meaning_of}
use Rattle.text_lines.specs.declared.value_type.ValueType.{ValueType}

-- each call that an object has is found by its name among the calls of its texts
abbrev pub CallsAreNamed : Type 0 → Type 0
CallsAreNamed T = (o : Object T) (call : Call T) → has_call o call ≡ true → is_some (named (name_of call) (calls_of o)) ≡ true

-- and the words of a call, its name and the values that it brings, ask of a party to begin it
abbrev pub CallsAreReadBack : {T : Type 0} → Arithmetic T → Numerals T → Type 0
CallsAreReadBack {T} z numerals = (o : Object T) (call : Call T) → has_call o call ≡ true → CallValues z call → task_of numerals o (name_of call) (values_written numerals call) ≡ Ok (Task.Give (Input.Begin call))

-- whatever the type of a text's values
abbrev pub TextsNameCalls : Type 0
TextsNameCalls = (values : ValueType) → CallsAreNamed (meaning_of values).Value

abbrev pub TextsReadCallsBack : Type 0
TextsReadCallsBack = (values : ValueType) → CallsAreReadBack (meaning_of values).arithmetic (meaning_of values).numerals
