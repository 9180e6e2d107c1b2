-- The call of a barrier, step for step.
use Rattle.std.specs.Prelude.{ℕ, ◌+◌, ◌*◌, ◌/◌, ◌%◌, ◌^◌, ◌==◌, nat_lt, true, false, Option, Some, None, unwrap_or, if◌then◌else◌}
use Rattle.model_barrier.specs.Names.{Word, Wake, Call, Answer, After, within, refused}
use Rattle.model_events.specs.Exports.{Table}
use Rattle.model_events.specs.declared.{row.Intent.Intent}
use Rattle.model_barrier.specs.declared.BarrierPlace.{BarrierPlace}

-- What the word says: in its upper half the epoch, in its lower how many have arrived.

abbrev pub upper : ℕ → ℕ
upper word = word / 2 ^ 32

abbrev pub lower : ℕ → ℕ
lower word = word % 2 ^ 32

-- the word with one arrival more: the one that makes n opens the next round
abbrev pub with_one_more : ℕ → ℕ → ℕ
with_one_more n word = if lower word + 1 == n then (upper word + 1) % 2 ^ 32 * 2 ^ 32 else word + 1

abbrev pub barrier_begins : {T : Type 0} → ℕ → Call T → Option BarrierPlace
barrier_begins n Call.Wait = Some (BarrierPlace.Look n)
barrier_begins n other = None

-- the step at each place, on the barrier's word
abbrev pub barrier_intent : {T : Type 0} → Word → BarrierPlace → Intent T
barrier_intent word (BarrierPlace.Look n) = Intent.Load word
barrier_intent word (BarrierPlace.Arrive n seen to) = Intent.Exchange word seen to
barrier_intent word BarrierPlace.Wake = Intent.Wake Wake.All
barrier_intent word (BarrierPlace.Stay epoch spins) = Intent.Load word

-- After a look the call is refused where n have arrived, and else arrives from the value seen.
abbrev pub look : {T : Type 0} → ℕ → ℕ → After T BarrierPlace
look n v = if nat_lt (lower v) n then After.At (BarrierPlace.Arrive n v (with_one_more n v)) else After.Ends Answer.Full

-- After its arrival the one that made n wakes all. Each other stays for as long as it sees the epoch of its arrival.
abbrev pub joined : {T : Type 0} → ℕ → ℕ → After T BarrierPlace
joined n v = if lower v + 1 == n then After.At BarrierPlace.Wake else After.At (BarrierPlace.Stay (upper v) 0)

-- A call that stays spins, and after its spins stands each time; its closure is told the whole word.
abbrev pub stay : {T : Type 0} → ℕ → ℕ → ℕ → After T BarrierPlace
stay epoch spins v = if upper v == epoch then within (λ p. BarrierPlace.Stay epoch p.spins) (refused (record { spins = spins; keep = true }) v) else After.Ends Answer.Ok

-- The value that a failed exchange found is a look.
abbrev pub found_after : {T : Type 0} → BarrierPlace → ℕ → After T BarrierPlace
found_after (BarrierPlace.Look n) found = look n found
found_after (BarrierPlace.Arrive n seen to) found = if found == seen then joined n seen else look n found
found_after BarrierPlace.Wake found = After.Ends Answer.Ok
found_after (BarrierPlace.Stay epoch spins) found = stay epoch spins found

abbrev pub barrier_after : {T : Type 0} → BarrierPlace → Option ℕ → After T BarrierPlace
barrier_after place told = found_after place (unwrap_or told 0)

-- both answers of a wait closure mean that the call looks again
abbrev pub barrier_table : {T : Type 0} → ℕ → Table T BarrierPlace
barrier_table n =
    record {
      opening = λ word. 0;
      begins = barrier_begins n;
      needs_hold = λ call. false;
      grant = λ call from to. None;
      intent = λ place hold. barrier_intent Word.State place;
      after = barrier_after;
      answered = λ place action. place;
      chosen = λ place choice. place;
    }
