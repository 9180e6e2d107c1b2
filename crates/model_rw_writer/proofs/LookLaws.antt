-- Where a writer goes on after a look: what holds of each place there, and of giving up, holds wherever the look leads.
use Rattle.model_rw_writer.proofs.Names.{ℕ, ◌+◌, ◌-◌, nat_lt, Answer, Patience, After, RwWriterPlace, lets_writer_in, lets_mark, is_marked, is_blocked, spins, marks_or_spins, unmarks_or_leaves, write_refused, write_look, last_look}
use Rattle.model_rw_writer.proofs.BoolLaws.{either}

pub record HoldsOn {T : Type 0} (Holds : After T RwWriterPlace → Type 0) : Type 0 where
  pub looks : (patience : Patience) → Holds (After.At (RwWriterPlace.WriteLook patience))
  pub loads : (patience : Patience) → Holds (After.At (RwWriterPlace.LoadCounter patience))
  pub marks : (v to : ℕ) (patience : Patience) → Holds (After.At (RwWriterPlace.Mark v to patience))
  pub unmarks : (v to : ℕ) → Holds (After.At (RwWriterPlace.Unmark v to))
  pub enters : (v : ℕ) (patience : Patience) → Holds (After.At (RwWriterPlace.Enter v patience))
  pub leaves : Holds (After.Ends Answer.Interrupted)

pub of_spins : {T : Type 0} (Holds : After T RwWriterPlace → Type 0) → HoldsOn Holds → (patience : Patience) → Holds (spins patience)
of_spins Holds on patience = either Holds (nat_lt patience.spins 10000) _ _ (on.looks _) (on.loads patience)

of_marks : {T : Type 0} (Holds : After T RwWriterPlace → Type 0) → HoldsOn Holds → (patience : Patience) (v : ℕ) → Holds (marks_or_spins patience v)
of_marks Holds on patience v = either Holds (lets_mark v) _ _ (on.marks v (v + 1) patience) (of_spins Holds on patience)

pub of_unmarks : {T : Type 0} (Holds : After T RwWriterPlace → Type 0) → HoldsOn Holds → (v : ℕ) → Holds (unmarks_or_leaves v)
of_unmarks Holds on v = either Holds (is_marked v) _ _ (on.unmarks v (v - 1)) on.leaves

pub of_refused : {T : Type 0} (Holds : After T RwWriterPlace → Type 0) → HoldsOn Holds → (patience : Patience) (v : ℕ) → Holds (write_refused patience v)
of_refused Holds on patience v = either Holds patience.keep _ _ (of_marks Holds on patience v) (of_unmarks Holds on v)

pub of_look : {T : Type 0} (Holds : After T RwWriterPlace → Type 0) → HoldsOn Holds → (patience : Patience) (v : ℕ) → Holds (write_look patience v)
of_look Holds on patience v = either Holds (lets_writer_in v) _ _ (on.enters v patience) (of_refused Holds on patience v)

-- after the last look it may also stand
pub of_last_look :
    {T : Type 0} (Holds : After T RwWriterPlace → Type 0) → HoldsOn Holds → (count : ℕ) (patience : Patience) (v : ℕ) → Holds (After.Waits (RwWriterPlace.WriteLook patience) count) → Holds (last_look count patience v)
of_last_look Holds on count patience v stands = either Holds (is_blocked v) _ _ stands (of_look Holds on patience v)
