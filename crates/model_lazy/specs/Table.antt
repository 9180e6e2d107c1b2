-- The calls of a lazy value, step for step: those of the once inside, and then a read of the cell.
use Rattle.std.specs.Prelude.{ℕ, false, Option, Some, None}
use Rattle.model_events.specs.Exports.{Table}
use Rattle.model_events.specs.declared.{event.Answer.Answer, event.Call.Call, event.Word.Word, row.After.After, row.Intent.Intent}
use Rattle.model_once.specs.declared.OncePlace.{OncePlace}
use Rattle.model_once.specs.Table.{once_intent, once_after}
use Rattle.model_lazy.specs.declared.LazyPlace.{LazyPlace}

-- `Force` begins as a once's `CallOnce`
abbrev pub lazy_begins : {T : Type 0} → Call T → Option LazyPlace
lazy_begins Call.Force = Some (LazyPlace.Once OncePlace.Look)
lazy_begins other = None

-- the step at each place, where the closure gives v
abbrev pub lazy_intent : {T : Type 0} → T → Word → LazyPlace → Intent T
lazy_intent v word (LazyPlace.Once place) = once_intent word place
lazy_intent v word LazyPlace.Read = Intent.ReadCell v

-- where the call of the once would have ended, the cell is read next
abbrev pub reads_next : {T : Type 0} → After T OncePlace → After T LazyPlace
reads_next (After.At place) = After.At (LazyPlace.Once place)
reads_next (After.Waits place seen) = After.Waits (LazyPlace.Once place) seen
reads_next (After.Chooses place old) = After.Chooses (LazyPlace.Once place) old
reads_next (After.Ends answer) = After.At LazyPlace.Read

abbrev pub lazy_after : {T : Type 0} → T → LazyPlace → Option ℕ → After T LazyPlace
lazy_after {T} v (LazyPlace.Once place) told = reads_next (once_after {T = T} place told)
lazy_after v LazyPlace.Read told = After.Ends (Answer.Value v)

-- no call of a lazy value asks a closure
abbrev pub lazy_table : {T : Type 0} → T → Table T LazyPlace
lazy_table v =
    record {
      opening = λ word. 0;
      begins = lazy_begins;
      needs_hold = λ call. false;
      grant = λ call from to. None;
      intent = λ place hold. lazy_intent v Word.State place;
      after = lazy_after v;
      answered = λ place action. place;
      chosen = λ place choice. place;
    }
