-- The party of the model that a pass of a writer-preferring lock is, and how its calls go.
use Rattle.std.specs.Prelude.{◌≡◌, ◌⊎◌, ℕ, false, if◌then◌else◌, Bool, List, [], ◌∷◌, Some, None}
use Rattle.running_rw_writer.specs.Names.{WaitAction, Word, Call, Answer, HoldKind, Patience, Intent, After, Leaver, RwWriterPlace, rw_writer_table, woken_one, is_last_reader, rw_writer_model, Slot, Parties, Coming, Answered, ComesBy, IsHolding, Leads, HasEnded, MayStep, Went, is_holding}

-- a party of the pass has a hold of this kind
abbrev pub has_hold : HoldKind → Parties ℕ → Bool
has_hold kind p = is_holding {P = RwWriterPlace} rw_writer_table kind p

-- the table has this step on the word at this index, where the pass comes to it so
abbrev pub TableHas : Coming ℕ → ℕ → (Word → Intent ℕ) → Parties ℕ → Type 0
TableHas coming i intent p = MayStep rw_writer_model (Word.State ∷ Word.Counter ∷ []) coming i intent p

-- it was made, found this, and has led the pass on as the table says
abbrev pub TableLed : Coming ℕ → Parties ℕ → ℕ → Parties ℕ → Type 0
TableLed coming p found q = Went rw_writer_model coming p found q

-- a call goes on so, by a party that has no hold before
abbrev pub CallGoes : Call ℕ → After ℕ RwWriterPlace → List (Slot ℕ) → Parties ℕ → Type 0
CallGoes call after done p = Leads rw_writer_model call after None done p

-- so, a `WriteLock`
abbrev pub WriteGoes : After ℕ RwWriterPlace → List (Slot ℕ) → Parties ℕ → Type 0
WriteGoes = CallGoes Call.WriteLock

-- a call that went on so before goes on so now
abbrev pub GoesFromTo : Call ℕ → After ℕ RwWriterPlace → After ℕ RwWriterPlace → Parties ℕ → Parties ℕ → Type 0
GoesFromTo call before after p q = (done : List (Slot ℕ)) → CallGoes call before done p → CallGoes call after done q

-- a call goes on so, of a party that has no hold
pub record SomeCallGoes (after : After ℕ RwWriterPlace) (p : Parties ℕ) : Type 0 where
  pub call : Call ℕ
  pub done : List (Slot ℕ)
  pub at : CallGoes call after done p

-- a `WriteLock` with this patience comes to a look
abbrev pub ComesToWrite : Coming ℕ → Patience → List (Slot ℕ) → Parties ℕ → Type 0
ComesToWrite coming patience done p = ComesBy rw_writer_model coming Call.WriteLock (RwWriterPlace.WriteLook patience) None done p

-- the patience once its closure has answered `Abort`
abbrev pub given_up : Patience
given_up = record { spins = 10000; keep = false }

-- it comes to its look after that answer
abbrev pub ComesToGiveUp : List (Slot ℕ) → Parties ℕ → Type 0
ComesToGiveUp = ComesToWrite (Answered WaitAction.Abort) given_up

-- it has the write hold
abbrev pub WriteIsGranted : List (Slot ℕ) → Parties ℕ → Type 0
WriteIsGranted done p = HasEnded rw_writer_model Call.WriteLock Answer.Success (Some HoldKind.Write) done p

-- it gave up: it is answered so, or has taken a mark away and counted, and is to wake one and then all
abbrev pub WriteGivesUp : Type 0 → List (Slot ℕ) → Parties ℕ → Type 0
WriteGivesUp Woke done p = WriteGoes (After.Ends Answer.Interrupted) done p ⊎ (WriteGoes (After.At (RwWriterPlace.WakeOne Leaver.GivenUp)) done p × Woke)

-- what follows wherever a `WriteLock` went on so
abbrev pub OnceWriting : After ℕ RwWriterPlace → Parties ℕ → (List (Slot ℕ) → Type 0) → Type 0
OnceWriting after p Then = (done : List (Slot ℕ)) → WriteGoes after done p → Then done

-- who leaves wakes one and then all
abbrev pub WakesBoth : Leaver → Type 0
WakesBoth who = woken_one {T = ℕ} who ≡ After.At (RwWriterPlace.WakeAll who)

-- a call of the pass is to wake one, and then all
pub record IsToWakeBoth (p : Parties ℕ) : Type 0 where
  pub who : Leaver
  pub both : WakesBoth who
  pub wakes : SomeCallGoes (After.At (RwWriterPlace.WakeOne who)) p

-- the party that had a hold of this kind has begun an `Unlock`, which goes on so
abbrev pub Unlocks : HoldKind → After ℕ RwWriterPlace → Parties ℕ → Parties ℕ → Type 0
Unlocks kind after p q = (done : List (Slot ℕ)) → IsHolding rw_writer_model kind done p → CallGoes Call.Unlock after done q

-- How an `Unlock` goes on once it has made its steps on words, where its release found this: the last reader under a mark has counted, and
-- is to wake one; another reader is answered; the writer has counted, and is to wake one and then all.
abbrev pub unlocked : HoldKind → ℕ → After ℕ RwWriterPlace
unlocked HoldKind.Read found = if is_last_reader found then After.At (RwWriterPlace.WakeOne Leaver.Reader) else After.Ends Answer.Done
unlocked HoldKind.Write found = After.At (RwWriterPlace.WakeOne Leaver.Writer)
