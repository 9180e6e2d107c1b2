-- What is shown of a lock of one's own.
use Rattle.std.specs.Prelude.{◌≡◌, ℕ, Bool, true, false, ◌&&◌, ◌||◌, List, Option, Some, None, get_or, slice_get}
use Rattle.text_own.specs.Names.{Call, Word, Role, Entry}
use Rattle.model_events.specs.Exports.{u64_arithmetic, IsExclusive}
use Rattle.model_events.specs.declared.event.Event.{Event}
use Rattle.model_own.specs.Holds.{IsOwnPast, own_holds}
use Rattle.model_own.specs.OneHolder.{AnswersTell, fits_call, fits_row}
use Rattle.model_own.specs.Rows.{Entries, own_table}
use Rattle.text_own.specs.Table.{Lock}
use Rattle.text_own.specs.declared.judge.Misfit.{Misfit}
use Rattle.text_own.specs.declared.judge.Verdict.{Verdict}
use Rattle.text_own.specs.declared.table.Calls.{Calls}

-- what a word holds at first
abbrev pub opening_in : List ℕ → Word → ℕ
opening_in opening Word.State = get_or opening 0 0
opening_in opening Word.Counter = get_or opening 1 0
opening_in opening Word.Waiters = get_or opening 2 0
opening_in opening Word.Value = get_or opening 3 0
opening_in opening Word.Low = get_or opening 4 0
opening_in opening Word.High = get_or opening 5 0

abbrev pub entries_of : Calls → Entries ℕ
entries_of calls Call.Lock = calls.lock
entries_of calls Call.TryLock = calls.try_lock
entries_of calls Call.Unlock = calls.unlock
entries_of calls call = None

abbrev pub fits_calls : List Role → Calls → Bool
fits_calls roles calls = fits_call roles calls.lock && (fits_call roles calls.try_lock && fits_call roles calls.unlock)

-- in every run of any number of parties one has the hold at most, and the answers tell who
abbrev pub HasOneHolder : Lock → Type 0
HasOneHolder lock =
    let opening = opening_in lock.opening in
    let entries = entries_of lock.calls in
    (parties : ℕ) (past : List (Event ℕ)) → IsOwnPast u64_arithmetic opening entries lock.rows parties past →
    IsExclusive (own_holds (own_table opening entries lock.rows) lock.rows past) × AnswersTell (own_table opening entries lock.rows) lock.rows past

abbrev pub takes_hold : Option Entry → Bool
takes_hold None = false
takes_hold (Some entry) = entry.takes_hold

-- a call takes the hold
abbrev pub can_begin : Calls → Bool
can_begin calls = takes_hold calls.lock || takes_hold calls.try_lock

-- by some word and roles the row at this place does not fit
pub record HasMisfit (lock : Lock) (at : ℕ) : Type 0 where
  pub word : Word
  pub roles : List Role
  pub is : fits_row word roles (slice_get roles at) (slice_get lock.rows at) ≡ false

-- What is said of a lock is so. Which row is told of one whose rows do not show it is found by a search.
abbrev pub IsSo : Lock → Verdict → Type 0
IsSo lock Verdict.Proved = (can_begin lock.calls ≡ true) × HasOneHolder lock
IsSo lock Verdict.NoCall = can_begin lock.calls ≡ false
IsSo lock Verdict.NoWord = Unit {0}
IsSo lock (Verdict.Row at why) = HasMisfit lock at
