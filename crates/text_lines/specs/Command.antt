-- What a line after the first asks, and of whom.
use Rattle.std.specs.Prelude.{ℕ, zero, suc, ◌-◌, ◌^◌, List, [], ◌∷◌, Option, Some, None, Result, Ok, Err, codes}
use Rattle.text_lines.specs.Names.{decimal, Call, Input, Object}
use Rattle.model_events.specs.declared.WaitAction.{WaitAction}
use Rattle.text_lines.specs.declared.command.Command.{Command}
use Rattle.text_lines.specs.declared.command.Form.{Form}
use Rattle.text_lines.specs.declared.command.Task.{Task}
use Rattle.text_lines.specs.declared.command.Values.{Values}
use Rattle.text_lines.specs.declared.fault.LineFault.{LineFault}
use Rattle.text_lines.specs.Call.{named}
use Rattle.text_lines.specs.Fault.{◌>>=◌}
use Rattle.text_lines.specs.Lexer.{number_within, find, nothing, only, only_two, only_number}
use Rattle.text_lines.specs.Numerals.{Numerals}
use Rattle.text_lines.specs.Objects.{calls_of}

-- The verbs of every object, and what each asks.

-- what every object knows
abbrev pub verbs : {T : Type 0} → List (List ℕ × Form T)
verbs =
    (codes "go", Form.Steps)
    ∷ (codes "run", Form.Alone (Task.Run 100000))
    ∷ (codes "wait", Form.Alone (Task.Give (Input.Answer WaitAction.Continue)))
    ∷ (codes "abort", Form.Alone (Task.Give (Input.Answer WaitAction.Abort)))
    ∷ (codes "some", Form.Choice)
    ∷ (codes "none", Form.Alone (Task.Give (Input.Choose None)))
    ∷ []

-- The numbers that follow.

-- `go` makes one step, or as many as it says
abbrev pub steps_asked : {T : Type 0} → List (List ℕ) → Result (Task T) LineFault
steps_asked [] = Ok (Task.Go 1)
steps_asked (word ∷ words) = only_number 1 100000 (word ∷ words) >>= λ n. Ok (Task.Go n)

abbrev pub task_by : {T : Type 0} → Numerals T → Form T → List (List ℕ) → Result (Task T) LineFault
task_by numerals (Form.Alone task) words = nothing words >>= λ _. Ok task
task_by numerals Form.Steps words = steps_asked words
task_by numerals Form.Choice words = only numerals.value_of words >>= λ v. Ok (Task.Give (Input.Choose (Some v)))

-- what follows the name of a call
abbrev pub values_of : Call Unit → Values
values_of (Call.Post _) = Values.Permits
values_of (Call.Store _) = Values.One
values_of (Call.Swap _) = Values.One
values_of (Call.FetchAdd _) = Values.One
values_of (Call.FetchSub _) = Values.One
values_of (Call.FetchAnd _) = Values.One
values_of (Call.FetchOr _) = Values.One
values_of (Call.FetchXor _) = Values.One
values_of (Call.FetchNand _) = Values.One
values_of (Call.FetchMax _) = Values.One
values_of (Call.FetchMin _) = Values.One
values_of (Call.CompareExchange _ _) = Values.Two
values_of (Call.CompareExchangeWeak _ _) = Values.Two
values_of call = Values.Nothing

-- A call with its values, of those that bring none, one and two.

abbrev pub alone : {T : Type 0} → Call Unit → Call T
alone Call.Lock = Call.Lock
alone Call.TryLock = Call.TryLock
alone Call.BlockingLock = Call.BlockingLock
alone Call.Unlock = Call.Unlock
alone Call.Value = Call.Value
alone Call.Wait = Call.Wait
alone Call.TryWait = Call.TryWait
alone Call.ReadLock = Call.ReadLock
alone Call.TryReadLock = Call.TryReadLock
alone Call.WriteLock = Call.WriteLock
alone Call.TryWriteLock = Call.TryWriteLock
alone Call.NotifyOne = Call.NotifyOne
alone Call.NotifyAll = Call.NotifyAll
alone Call.CallOnce = Call.CallOnce
alone Call.IsCompleted = Call.IsCompleted
alone Call.Force = Call.Force
alone Call.Load = Call.Load
alone call = Call.FetchUpdate

abbrev pub with_one : {T : Type 0} → Call Unit → T → Call T
with_one (Call.Store _) v = Call.Store v
with_one (Call.Swap _) v = Call.Swap v
with_one (Call.FetchAdd _) v = Call.FetchAdd v
with_one (Call.FetchSub _) v = Call.FetchSub v
with_one (Call.FetchAnd _) v = Call.FetchAnd v
with_one (Call.FetchOr _) v = Call.FetchOr v
with_one (Call.FetchXor _) v = Call.FetchXor v
with_one (Call.FetchNand _) v = Call.FetchNand v
with_one (Call.FetchMax _) v = Call.FetchMax v
with_one call v = Call.FetchMin v

abbrev pub with_two : {T : Type 0} → Call Unit → T → T → Call T
with_two (Call.CompareExchange _ _) v w = Call.CompareExchange v w
with_two call v w = Call.CompareExchangeWeak v w

-- the values that a call brings, each a word
abbrev pub values_written : {T : Type 0} → Numerals T → Call T → List (List ℕ)
values_written numerals (Call.Post permits) = decimal permits ∷ []
values_written numerals (Call.Store v) = numerals.decimal_of v ∷ []
values_written numerals (Call.Swap v) = numerals.decimal_of v ∷ []
values_written numerals (Call.CompareExchange v w) = numerals.decimal_of v ∷ numerals.decimal_of w ∷ []
values_written numerals (Call.CompareExchangeWeak v w) = numerals.decimal_of v ∷ numerals.decimal_of w ∷ []
values_written numerals (Call.FetchAdd v) = numerals.decimal_of v ∷ []
values_written numerals (Call.FetchSub v) = numerals.decimal_of v ∷ []
values_written numerals (Call.FetchAnd v) = numerals.decimal_of v ∷ []
values_written numerals (Call.FetchOr v) = numerals.decimal_of v ∷ []
values_written numerals (Call.FetchXor v) = numerals.decimal_of v ∷ []
values_written numerals (Call.FetchNand v) = numerals.decimal_of v ∷ []
values_written numerals (Call.FetchMax v) = numerals.decimal_of v ∷ []
values_written numerals (Call.FetchMin v) = numerals.decimal_of v ∷ []
values_written numerals call = []

-- with the values that follow its name
abbrev pub with_these : {T : Type 0} → Numerals T → Call Unit → Values → List (List ℕ) → Result (Call T) LineFault
with_these numerals call Values.Nothing words = nothing words >>= λ _. Ok (alone call)
with_these numerals call Values.Permits words = only_number 0 (2 ^ 64 - 1) words >>= λ n. Ok (Call.Post n)
with_these numerals call Values.One words = only numerals.value_of words >>= λ v. Ok (with_one call v)
with_these numerals call Values.Two words = only_two numerals.value_of words >>= λ vs. Ok (with_two call vs.0 vs.1)

abbrev pub with_values : {T : Type 0} → Numerals T → Call Unit → List (List ℕ) → Result (Call T) LineFault
with_values numerals call words = with_these numerals call (values_of call) words

-- What a verb asks with the words after it: first those of every object, then the object's calls; another is a bad line.

abbrev pub call_if : {T : Type 0} → Numerals T → Option (Call Unit) → List (List ℕ) → Result (Task T) LineFault
call_if numerals None words = Err LineFault.BadLine
call_if numerals (Some call) words = with_values numerals call words >>= λ begun. Ok (Task.Give (Input.Begin begun))

abbrev pub task_if : {T : Type 0} → Numerals T → Option (Form T) → Option (Call Unit) → List (List ℕ) → Result (Task T) LineFault
task_if numerals (Some form) call words = task_by numerals form words
task_if numerals None call words = call_if numerals call words

unfoldable pub task_of : {T : Type 0} → Numerals T → Object T → List ℕ → List (List ℕ) → Result (Task T) LineFault
task_of numerals o verb words = task_if numerals (find verb verbs) (named verb (calls_of o)) words

-- The line.

-- in a text the parties are counted from 1
abbrev pub party_of : ℕ → Result ℕ LineFault
party_of zero = Err LineFault.NoParty
party_of (suc party) = Ok party

-- The party and what it is asked. An unknown verb or a wrong count of words comes before a bad number, and a line without words asks
-- nothing.
unfoldable pub command_of : {T : Type 0} → Numerals T → Object T → List (List ℕ) → Result (Option (Command T)) LineFault
command_of numerals o [] = Ok None
command_of numerals o (party ∷ []) = Err LineFault.BadLine
command_of numerals o (party ∷ verb ∷ words) = do
  task ← task_of numerals o verb words
  number ← number_within 0 (2 ^ 64 - 1) party
  from_zero ← party_of number
  Ok (Some (record { party = from_zero; task = task }))
