-- The calls of an atomic, step for step: the lock inside, which is a reader-preferring lock's, and between its steps those on the two data words.
use Rattle.std.specs.Prelude.{ℕ, ◌+◌, ◌-◌, ◌^◌, ◌==◌, Bool, false, if◌then◌else◌, Option, Some, None, unwrap_or}
use Rattle.model_atomic.specs.Names.{Word, Call, Answer, HoldKind, After, Arithmetic, Table, lets_readers_in, release}
use Rattle.model_events.specs.declared.row.Intent.{Intent}
use Rattle.model_atomic.specs.declared.AtomicPlace.{AtomicPlace}

-- what the data words open with
abbrev pub atomic_opening : {T : Type 0} → Arithmetic T → T → Word → ℕ
atomic_opening z v Word.Low = z.low v
atomic_opening z v Word.High = z.high v
atomic_opening z v other = 0

-- `Load` begins with a look at the lock's word, the others with an exchange
abbrev pub atomic_begins : {T : Type 0} → Call T → Option (AtomicPlace T)
atomic_begins Call.Load = Some AtomicPlace.Look
atomic_begins (Call.Store x) = Some (AtomicPlace.Take (Call.Store x))
atomic_begins (Call.Swap x) = Some (AtomicPlace.Take (Call.Swap x))
atomic_begins (Call.CompareExchange c x) = Some (AtomicPlace.Take (Call.CompareExchange c x))
atomic_begins (Call.CompareExchangeWeak c x) = Some (AtomicPlace.Take (Call.CompareExchangeWeak c x))
atomic_begins (Call.FetchAdd x) = Some (AtomicPlace.Take (Call.FetchAdd x))
atomic_begins (Call.FetchSub x) = Some (AtomicPlace.Take (Call.FetchSub x))
atomic_begins (Call.FetchAnd x) = Some (AtomicPlace.Take (Call.FetchAnd x))
atomic_begins (Call.FetchOr x) = Some (AtomicPlace.Take (Call.FetchOr x))
atomic_begins (Call.FetchXor x) = Some (AtomicPlace.Take (Call.FetchXor x))
atomic_begins (Call.FetchNand x) = Some (AtomicPlace.Take (Call.FetchNand x))
atomic_begins (Call.FetchMax x) = Some (AtomicPlace.Take (Call.FetchMax x))
atomic_begins (Call.FetchMin x) = Some (AtomicPlace.Take (Call.FetchMin x))
atomic_begins Call.FetchUpdate = Some (AtomicPlace.Take Call.FetchUpdate)
atomic_begins other = None

-- the step at each place, by the party's hold
abbrev pub atomic_intent : {T : Type 0} → AtomicPlace T → Option HoldKind → Intent T
atomic_intent AtomicPlace.Look hold = Intent.Load Word.State
atomic_intent (AtomicPlace.Enter seen to) hold = Intent.Exchange Word.State seen to
atomic_intent (AtomicPlace.Take call) hold = Intent.Exchange Word.State 0 (2 ^ 64 - 1)
atomic_intent (AtomicPlace.Low call) hold = Intent.Load Word.Low
atomic_intent (AtomicPlace.High call low) hold = Intent.Load Word.High
atomic_intent (AtomicPlace.Again old) hold = Intent.Load Word.High
atomic_intent (AtomicPlace.PutLow low high answer) hold = Intent.Store Word.Low low
atomic_intent (AtomicPlace.PutHigh high answer) hold = Intent.Store Word.High high
atomic_intent (AtomicPlace.Leave answer) hold = release Word.State hold

-- after a look `Load` enters where a reader may, and looks again where none may: it never asks
abbrev pub look_at : {T : Type 0} → ℕ → AtomicPlace T
look_at v = if lets_readers_in v then AtomicPlace.Enter v (v + 1) else AtomicPlace.Look

-- both words of a value are stored, and then the call answers
abbrev pub puts : {T : Type 0} → Arithmetic T → T → Answer T → AtomicPlace T
puts z new answer = AtomicPlace.PutLow (z.low new) (z.high new) answer

-- where a call goes on that has the lock for writing
abbrev pub inside : {T : Type 0} → Arithmetic T → Call T → AtomicPlace T
inside z (Call.Store x) = puts z x Answer.Done
inside z other = AtomicPlace.Low other

abbrev pub compares : {T : Type 0} → Arithmetic T → Bool → T → T → AtomicPlace T
compares z same old new = if same then puts z new (Answer.OkOld old) else AtomicPlace.Leave (Answer.ErrOld old)

-- where a call goes on that knows the old value
abbrev pub knows : {T : Type 0} → Arithmetic T → Call T → T → After T (AtomicPlace T)
knows z Call.Load old = After.At (AtomicPlace.Leave (Answer.Value old))
knows z (Call.Swap x) old = After.At (puts z x (Answer.Value old))
knows z (Call.CompareExchange c x) old = After.At (compares z (z.same old c) old x)
knows z (Call.CompareExchangeWeak c x) old = After.At (compares z (z.same old c) old x)
knows z (Call.FetchAdd x) old = After.At (puts z (z.add old x) (Answer.Value old))
knows z (Call.FetchSub x) old = After.At (puts z (z.subtract old x) (Answer.Value old))
knows z (Call.FetchAnd x) old = After.At (puts z (z.and old x) (Answer.Value old))
knows z (Call.FetchOr x) old = After.At (puts z (z.or old x) (Answer.Value old))
knows z (Call.FetchXor x) old = After.At (puts z (z.xor old x) (Answer.Value old))
knows z (Call.FetchNand x) old = After.At (puts z (z.inverse (z.and old x)) (Answer.Value old))
knows z (Call.FetchMax x) old = After.At (puts z (z.greater old x) (Answer.Value old))
knows z (Call.FetchMin x) old = After.At (puts z (z.lesser old x) (Answer.Value old))
knows z Call.FetchUpdate old = After.Chooses (AtomicPlace.Again old) old
knows z other old = After.At (AtomicPlace.Leave Answer.Done)

abbrev pub found_after : {T : Type 0} → Arithmetic T → AtomicPlace T → ℕ → After T (AtomicPlace T)
found_after z AtomicPlace.Look found = After.At (look_at found)
found_after z (AtomicPlace.Enter seen to) found = After.At (if found == seen then AtomicPlace.Low Call.Load else look_at found)
found_after z (AtomicPlace.Take call) found = After.At (if found == 0 then inside z call else AtomicPlace.Take call)
found_after z (AtomicPlace.Low call) found = After.At (AtomicPlace.High call found)
found_after z (AtomicPlace.High call low) found = knows z call (z.of_words low found)
found_after z (AtomicPlace.Again old) found = After.At (AtomicPlace.Leave (Answer.ErrOld old))
found_after z (AtomicPlace.PutLow low high answer) found = After.At (AtomicPlace.PutHigh high answer)
found_after z (AtomicPlace.PutHigh high answer) found = After.At (AtomicPlace.Leave answer)
found_after z (AtomicPlace.Leave answer) found = After.Ends answer

abbrev pub atomic_after : {T : Type 0} → Arithmetic T → AtomicPlace T → Option ℕ → After T (AtomicPlace T)
atomic_after z place told = found_after z place (unwrap_or told 0)

-- where a `FetchUpdate` goes on once its choice closure has answered
abbrev pub atomic_chosen : {T : Type 0} → Arithmetic T → AtomicPlace T → Option T → AtomicPlace T
atomic_chosen z (AtomicPlace.Again old) (Some new) = puts z new (Answer.OkOld old)
atomic_chosen z place choice = place

-- `Load` takes a read hold, the others the write hold
abbrev pub atomic_grant : {T : Type 0} → Call T → Option HoldKind
atomic_grant Call.Load = Some HoldKind.Read
atomic_grant (Call.Store x) = Some HoldKind.Write
atomic_grant (Call.Swap x) = Some HoldKind.Write
atomic_grant (Call.CompareExchange c x) = Some HoldKind.Write
atomic_grant (Call.CompareExchangeWeak c x) = Some HoldKind.Write
atomic_grant (Call.FetchAdd x) = Some HoldKind.Write
atomic_grant (Call.FetchSub x) = Some HoldKind.Write
atomic_grant (Call.FetchAnd x) = Some HoldKind.Write
atomic_grant (Call.FetchOr x) = Some HoldKind.Write
atomic_grant (Call.FetchXor x) = Some HoldKind.Write
atomic_grant (Call.FetchNand x) = Some HoldKind.Write
atomic_grant (Call.FetchMax x) = Some HoldKind.Write
atomic_grant (Call.FetchMin x) = Some HoldKind.Write
atomic_grant Call.FetchUpdate = Some HoldKind.Write
atomic_grant other = None

abbrev pub atomic_table : {T : Type 0} → Arithmetic T → T → Table T (AtomicPlace T)
atomic_table z v =
    record {
      opening = atomic_opening z v;
      begins = atomic_begins;
      needs_hold = λ call. false;
      grant = λ call from to. atomic_grant call;
      intent = atomic_intent;
      after = atomic_after z;
      answered = λ place action. place;
      chosen = atomic_chosen z;
    }
