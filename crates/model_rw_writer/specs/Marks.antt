-- The mark: a waiting writer sets it, and while it is set no reader enters.
use Rattle.std.specs.Prelude.{ℕ, ◌+◌, ◌==◌, Bool, true, false, ◌&&◌, List, [], ◌∷◌, Option, Some, None, is_some, if◌then◌else◌}
use Rattle.model_rw_writer.specs.Names.{Word, Call, Act, Event, PendingCall, call_of}

abbrev pub is_writing : {T : Type 0} → Call T → Bool
is_writing Call.WriteLock = true
is_writing Call.TryWriteLock = true
is_writing call = false

abbrev pub is_one_more : ℕ → ℕ → Bool
is_one_more from to = to == from + 1

-- Who set the mark, after an act of a party: a writing call's done exchange for one more sets it; each other done exchange of a writing
-- call takes it away, as the writer's entering does.
abbrev pub setter_after : {T : Type 0} → ℕ → Act T → Option (PendingCall T) → Option ℕ → Option ℕ
setter_after party (Act.Exchange Word.State from to found true) (Some c) setter =
    if is_writing c.call then (if is_one_more from to then Some party else None) else setter
setter_after party act pending setter = setter

-- the party whose call set the mark last, while it is set
abbrev pub setter_of : {T : Type 0} → List (Event T) → Option ℕ
setter_of [] = None
setter_of (e ∷ past) = setter_after e.party e.act (call_of e.party past) (setter_of past)

abbrev pub is_marked_after : {T : Type 0} → List (Event T) → Bool
is_marked_after past = is_some (setter_of past)

-- an event that sets the mark
abbrev pub sets_mark : {T : Type 0} → Act T → Bool
sets_mark (Act.Exchange Word.State from to found done) = done && is_one_more from to
sets_mark act = false

-- the call has set the mark
abbrev pub has_marked : {T : Type 0} → List (Event T) → Bool
has_marked [] = false
has_marked (e ∷ own) = if sets_mark e.act then true else has_marked own
