-- The model that an atomic plays.
use Rattle.std.specs.Prelude.{ℕ, List, [], ◌∷◌}
use Rattle.running_atomic.specs.Names.{Word, Event, Arithmetic, IsValue, IsClosed, IsPast, AtomicPlace, atomic_table, KeepsAtomic, keeps_atomic, Model}

-- What every run keeps, where the operators lead from values to values, and the opening value is one: so it is of every type that an
-- atomic may hold.
abbrev pub KeepsLaw : {T : Type 0} → Arithmetic T → T → List (Event T) → Type 0
KeepsLaw z v past = IsClosed z → IsValue z v → KeepsAtomic z v past

abbrev pub atomic_model : {T : Type 0} → Arithmetic T → T → Model T (AtomicPlace T)
atomic_model z v = record { arithmetic = z; table = atomic_table z v; law = KeepsLaw z v }

pub atomic_lawful : {T : Type 0} (z : Arithmetic T) (v : T) (parties : ℕ) (past : List (Event T)) → IsPast z (atomic_table z v) parties past → KeepsLaw z v past
atomic_lawful z v parties past run closed is = keeps_atomic z closed v parties past is run

-- the lock's word, and the two data words
abbrev pub atomic_names : List Word
atomic_names = Word.State ∷ Word.Low ∷ Word.High ∷ []
