-- The holds of a lock by their kinds: how many of each there are.
use Rattle.std.specs.Prelude.{ℕ, ◌+◌, Bool, true, false, if◌then◌else◌, List, [], ◌∷◌}
use Rattle.model_events.specs.Types.{HoldKind}
use Rattle.model_events.specs.Past.{Hold}

abbrev pub same_kind : HoldKind → HoldKind → Bool
same_kind HoldKind.Read HoldKind.Read = true
same_kind HoldKind.Write HoldKind.Write = true
same_kind a b = false

-- how many holds are of this kind
abbrev pub holds_of_kind : HoldKind → List Hold → ℕ
holds_of_kind kind [] = 0
holds_of_kind kind (hold ∷ holds) = (if same_kind kind hold.1 then 1 else 0) + holds_of_kind kind holds

-- how many read holds there are
abbrev pub reads_in : List Hold → ℕ
reads_in holds = holds_of_kind HoldKind.Read holds

-- how many write holds there are
abbrev pub writes_in : List Hold → ℕ
writes_in holds = holds_of_kind HoldKind.Write holds
