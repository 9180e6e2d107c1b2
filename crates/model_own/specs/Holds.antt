-- Who holds a lock of one's own: what its rows say of each step.
use Rattle.std.specs.Prelude.{◌≡◌, ℕ, true, is_some, Option, Some, None, List, [], ◌∷◌, if◌then◌else◌}
use Rattle.model_own.specs.Names.{Arithmetic, Table, IsPast, Hold, PendingCall, call_of, hold_among, without, stage_of, is_step, value_told, Act, Event, HoldKind, HoldChange, Way, Row, OwnPlace, Entry, Word}
use Rattle.model_own.specs.Rows.{way_in, Entries, own_table}

abbrev pub change_of : Option Way → HoldChange
change_of None = HoldChange.Keeps
change_of (Some way) = way.change

abbrev pub change_at : List Row → Option OwnPlace → Option ℕ → HoldChange
change_at rows None told = HoldChange.Keeps
change_at rows (Some place) told = change_of (way_in rows place told)

-- what an event of a party changes in its hold, by its call before: a step what the way says that it went
abbrev pub change_by : {T : Type 0} → Table T OwnPlace → List Row → Act T → Option (PendingCall T) → HoldChange
change_by t rows act None = HoldChange.Keeps
change_by t rows act (Some c) = if is_step act then change_at rows (stage_of t c) (value_told act) else HoldChange.Keeps

abbrev pub changed : ℕ → HoldChange → List Hold → List Hold
changed party HoldChange.Keeps holds = holds
changed party (HoldChange.Takes kind) holds = (party, kind) ∷ holds
changed party HoldChange.Ends holds = without party holds

-- the holds after the events
abbrev pub own_holds : {T : Type 0} → Table T OwnPlace → List Row → List (Event T) → List Hold
own_holds t rows [] = []
own_holds t rows (e ∷ past) = changed e.party (change_by t rows e.act (call_of e.party past)) (own_holds t rows past)

-- a call that takes a hold begins without one, and one that needs a hold with one
abbrev pub BeginsBy : Option Entry → Option HoldKind → Type 0
BeginsBy None hold = Unit {0}
BeginsBy (Some entry) hold = (entry.takes_hold ≡ true → hold ≡ None) × (entry.needs_hold ≡ true → is_some hold ≡ true)

abbrev pub BegunBy : {T : Type 0} → Entries T → Act T → Option HoldKind → Type 0
BegunBy entries (Act.Begun call) hold = BeginsBy (entries call) hold
BegunBy entries act hold = Unit {0}

-- so did each call
abbrev pub HaveBegunByHolds : {T : Type 0} → Entries T → Table T OwnPlace → List Row → List (Event T) → Type 0
HaveBegunByHolds entries t rows [] = Unit {0}
HaveBegunByHolds entries t rows (e ∷ past) = BegunBy entries e.act (hold_among e.party (own_holds t rows past)) × HaveBegunByHolds entries t rows past

-- the events are those of a schedule of such a lock
pub record IsOwnPast {T : Type 0} (z : Arithmetic T) (opening : Word → ℕ) (entries : Entries T) (rows : List Row) (parties : ℕ) (past : List (Event T)) : Type 0 where
  pub run : IsPast z (own_table opening entries rows) parties past
  pub begins : HaveBegunByHolds entries (own_table opening entries rows) rows past
