-- What the law tells of an answer that a pass got.
use Rattle.std.specs.Prelude.{◌≡◌, ℕ, true, None}
use Rattle.running_once.specs.Names.{Call, Answer, ends_in, Parties, HasCalled}
use Rattle.running_once.specs.Once.{once_model}

-- in the run in which a `CallOnce` was answered `Done`, the closure had ended before
abbrev pub DoneComesAfterTheEnd : Type 0
DoneComesAfterTheEnd = (p q : Parties ℕ) (called : HasCalled once_model Call.CallOnce Answer.Done None p q) → ends_in called.answered.past ≡ 1

-- and in that in which an `IsCompleted` was answered `true`
abbrev pub TrueComesAfterTheEnd : Type 0
TrueComesAfterTheEnd = (p q : Parties ℕ) (called : HasCalled once_model Call.IsCompleted (Answer.Flag true) None p q) → ends_in called.answered.past ≡ 1
