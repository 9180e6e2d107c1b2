-- Which rows are those of a lock with one holder at most, by a test of the rows alone. One word tells: it is 0 exactly where nobody has the hold. A row is
-- made in a role, without the hold or with it, and leads to rows of the role that it leaves.
use Rattle.std.specs.Prelude.{◌≡◌, ℕ, zero, suc, ◌==◌, ◌&&◌, Bool, true, false, is_some, Option, Some, None, List, [], ◌∷◌, slice_get, if◌then◌else◌}
use Rattle.model_events.specs.declared.event.Then.{Then}
use Rattle.model_own.specs.Names.{same_word, hold_among, Table, OwnPlace, Answer, Event, Word, Call, HoldKind, Number, Test, Operation, HoldChange, Next, Row, Role, Entry}
use Rattle.model_own.specs.Rows.{Entries}
use Rattle.model_own.specs.Holds.{own_holds}

abbrev pub keeps : HoldChange → Bool
keeps HoldChange.Keeps = true
keeps change = false

abbrev pub takes : HoldChange → Bool
takes (HoldChange.Takes HoldKind.Write) = true
takes change = false

abbrev pub ends : HoldChange → Bool
ends HoldChange.Ends = true
ends change = false

-- no way changes a hold
abbrev pub if_kept : Role → Row → Option (Role × Role)
if_kept role row = if (keeps row.passed.change && keeps row.failed.change) then Some (role, role) else None

-- each way ends it
abbrev pub if_ended : Row → Option (Role × Role)
if_ended row = if (ends row.passed.change && ends row.failed.change) then Some (Role.Out, Role.Out) else None

-- whether this is the test for the number
abbrev pub asks_for : ℕ → Test → Bool
asks_for n (Test.Is (Number.Is m)) = n == m
asks_for n test = false

-- it takes the hold where it found 0, and nothing else
abbrev pub if_taken_at_zero : Row → Option (Role × Role)
if_taken_at_zero row = if (asks_for 0 row.test && takes row.passed.change && keeps row.failed.change) then Some (Role.In, Role.Out) else None

-- it ends the hold where it found this, and nothing else
abbrev pub if_ended_at : ℕ → Row → Option (Role × Role)
if_ended_at n row = if (asks_for n row.test && ends row.passed.change && keeps row.failed.change) then Some (Role.Out, Role.In) else None

-- The roles in which a step on the telling word leaves its party where its test passes, and where not; none where no lock may make it.
abbrev pub stores : Role → ℕ → Row → Option (Role × Role)
stores Role.In zero row = if_ended row
stores Role.In (suc n) row = if_kept Role.In row
stores role n row = None

abbrev pub swaps : Role → ℕ → Row → Option (Role × Role)
swaps Role.Out (suc n) row = if_taken_at_zero row
swaps role n row = stores role n row

abbrev pub exchanges : Role → ℕ → ℕ → Row → Option (Role × Role)
exchanges Role.Out zero (suc n) row = if_taken_at_zero row
exchanges Role.In (suc m) zero row = if_ended_at (suc m) row
exchanges role (suc m) (suc n) row = if_kept role row
exchanges role from to row = None

abbrev pub works : Role → Operation → Row → Option (Role × Role)
works role (Operation.Load word) row = if_kept role row
works role (Operation.Store word (Number.Is n)) row = stores role n row
works role (Operation.Swap word (Number.Is n)) row = swaps role n row
works role (Operation.Exchange word (Number.Is m) (Number.Is n)) row = exchanges role m n row
works role (Operation.Wake wake) row = if_kept role row
works role operation row = None

abbrev pub is_on : Word → Operation → Bool
is_on word (Operation.Load w) = same_word w word
is_on word (Operation.Store w put) = same_word w word
is_on word (Operation.Swap w put) = same_word w word
is_on word (Operation.Add w more) = same_word w word
is_on word (Operation.Subtract w less) = same_word w word
is_on word (Operation.Exchange w from to) = same_word w word
is_on word (Operation.Wake wake) = false

abbrev pub leaves : Word → Role → Row → Option (Role × Role)
leaves word role row = if is_on word row.operation then works role row.operation row else if_kept role row

abbrev pub is_in : Role → Bool
is_in Role.In = true
is_in role = false

abbrev pub is_out : Role → Bool
is_out Role.Out = true
is_out role = false

-- Where there is no row the call ends, without the hold.
abbrev pub fits_role : Role → Option Role → Bool
fits_role role None = is_out role
fits_role role (Some Role.Any) = true
fits_role Role.Out (Some Role.Out) = true
fits_role Role.In (Some Role.In) = true
fits_role role other = false

-- A call is answered `Success` with the hold, and otherwise, or refused, without it.
abbrev pub fits_next : List Role → Role → Next → Bool
fits_next roles role (Next.At row) = fits_role role (slice_get roles row)
fits_next roles role (Next.Refused row seen) = is_out role && fits_role role (slice_get roles row)
fits_next roles role Next.Success = is_in role
fits_next roles role Next.Interrupted = is_out role
fits_next roles role Next.Done = is_out role

abbrev pub fits_ways : List Role → Option (Role × Role) → Row → Bool
fits_ways roles None row = false
fits_ways roles (Some left) row = fits_next roles left.0 row.passed.next && fits_next roles left.1 row.failed.next

abbrev pub fits_row : Word → List Role → Option Role → Option Row → Bool
fits_row word roles None None = true
fits_row word roles (Some role) None = false
fits_row word roles None (Some row) = false
fits_row word roles (Some role) (Some row) = fits_ways roles (leaves word role row) row

-- each row has a role, and fits it
abbrev pub Fit : Word → List Role → List Row → Type 0
Fit word roles rows = (i : ℕ) → fits_row word roles (slice_get roles i) (slice_get rows i) ≡ true

-- a call that takes a hold begins in a row that may take it, and one that needs a hold in any
abbrev pub fits_begin : Bool → Bool → Option Role → Bool
fits_begin takes_hold needs_hold None = takes_hold
fits_begin takes_hold needs_hold (Some Role.Any) = true
fits_begin takes_hold needs_hold (Some Role.Out) = takes_hold
fits_begin takes_hold needs_hold (Some Role.In) = needs_hold

abbrev pub fits_entry : List Role → Entry → Bool
fits_entry roles entry = fits_begin entry.takes_hold entry.needs_hold (slice_get roles entry.row)

abbrev pub fits_call : List Role → Option Entry → Bool
fits_call roles None = true
fits_call roles (Some entry) = fits_entry roles entry

abbrev pub EntriesFit : {T : Type 0} → List Role → Entries T → Type 0
EntriesFit {T} roles entries = (call : Call T) → fits_call roles (entries call) ≡ true

-- these rows, entries and opening words are those of a lock, by these roles and this word
pub record IsOwnLock {T : Type 0} (word : Word) (opening : Word → ℕ) (entries : Entries T) (roles : List Role) (rows : List Row) : Type 0 where
  pub opens : opening word ≡ 0
  pub fit : Fit word roles rows
  pub begin : EntriesFit roles entries

abbrev pub Tells : {T : Type 0} → Then T → Option HoldKind → Type 0
Tells (Then.Answers Answer.Success) hold = is_some hold ≡ true
Tells (Then.Answers answer) hold = hold ≡ None
Tells other hold = Unit {0}

-- whoever's call has just been answered `Success` has the hold, and whoever's was answered otherwise has none
abbrev pub AnswersTell : {T : Type 0} → Table T OwnPlace → List Row → List (Event T) → Type 0
AnswersTell t rows [] = Unit {0}
AnswersTell t rows (e ∷ past) = Tells e.then (hold_among e.party (own_holds t rows (e ∷ past)))
