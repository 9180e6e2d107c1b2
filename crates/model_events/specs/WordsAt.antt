-- The words of an object, by their names.
use Rattle.std.specs.Prelude.{ℕ}
use Rattle.model_events.specs.Types.{Word, Words}

abbrev pub word_at : Words → Word → ℕ
word_at w Word.State = w.state
word_at w Word.Counter = w.counter
word_at w Word.Waiters = w.waiters
word_at w Word.Value = w.value
word_at w Word.Low = w.low
word_at w Word.High = w.high
