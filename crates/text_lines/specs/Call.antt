-- What calls are called in a text.
use Rattle.std.specs.Prelude.{ℕ, if◌then◌else◌, List, [], ◌∷◌, Option, Some, None, codes}
use Rattle.text_lines.specs.Names.{bytes_eq, Call}

-- as in the Rust crate, but that `wait` is `start_wait`, since `wait` is the closure's answer
abbrev pub name_of : {T : Type 0} → Call T → List ℕ
name_of Call.Lock = codes "lock"
name_of Call.TryLock = codes "try_lock"
name_of Call.BlockingLock = codes "blocking_lock"
name_of Call.Unlock = codes "unlock"
name_of Call.Value = codes "value"
name_of (Call.Post permits) = codes "post"
name_of Call.Wait = codes "start_wait"
name_of Call.TryWait = codes "try_wait"
name_of Call.ReadLock = codes "read_lock"
name_of Call.TryReadLock = codes "try_read_lock"
name_of Call.WriteLock = codes "write_lock"
name_of Call.TryWriteLock = codes "try_write_lock"
name_of Call.NotifyOne = codes "notify_one"
name_of Call.NotifyAll = codes "notify_all"
name_of Call.CallOnce = codes "call_once"
name_of Call.IsCompleted = codes "is_completed"
name_of Call.Force = codes "force"
name_of Call.Load = codes "load"
name_of (Call.Store v) = codes "store"
name_of (Call.Swap v) = codes "swap"
name_of (Call.CompareExchange v w) = codes "compare_exchange"
name_of (Call.CompareExchangeWeak v w) = codes "compare_exchange_weak"
name_of (Call.FetchAdd v) = codes "fetch_add"
name_of (Call.FetchSub v) = codes "fetch_sub"
name_of (Call.FetchAnd v) = codes "fetch_and"
name_of (Call.FetchOr v) = codes "fetch_or"
name_of (Call.FetchXor v) = codes "fetch_xor"
name_of (Call.FetchNand v) = codes "fetch_nand"
name_of (Call.FetchMax v) = codes "fetch_max"
name_of (Call.FetchMin v) = codes "fetch_min"
name_of Call.FetchUpdate = codes "fetch_update"

-- the first of this name
abbrev pub named : List ℕ → List (Call Unit) → Option (Call Unit)
named name [] = None
named name (call ∷ calls) = if bytes_eq name (name_of call) then Some call else named name calls
