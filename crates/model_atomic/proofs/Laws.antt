-- An atomic keeps its law at every prefix of every run.
use Rattle.model_atomic.proofs.Names.{◌≡◌, ℕ, refl, false, List, [], ◌∷◌, Option, by_move, tells_memory, arith, eqb-true, eqb-false, nat_tests, Word, Event, HoldKind, Arithmetic, same_word, PendingCall, call_of, holds_of, hold_of, word_in, Move, step_at, IsPast, TellsMemory, IsExclusive, HasCause, is_refusal, Lacks, CountsHolds, AtomicPlace, AtomicCause, atomic_table}
use Rattle.model_rw_reader.proofs.ReaderLocks.{IsReaderLock, IsReaderIntent, reader_lock_word, reader_lock_exclusive}
use Rattle.model_atomic.proofs.Places.{AtAtomic, here}

-- The lock inside is a lock of many readers or one writer.

reader_intent : {T : Type 0} (z : Arithmetic T) (v : T) (place : AtomicPlace T) (c : PendingCall T) (hold : Option HoldKind) → AtAtomic z place c hold → IsReaderIntent {T = T} ((atomic_table z v).grant c.call) hold ((atomic_table z v).intent place hold)
reader_intent z v place c hold h1 = grind (arith, nat_tests, eqb-true, eqb-false)

pub atomic_is_lock : {T : Type 0} (z : Arithmetic T) (v : T) (parties : ℕ) → IsReaderLock {T = T} z (atomic_table z v) parties
atomic_is_lock z v parties =
    record {
      opens = refl;
      steps = λ past party c place run called stage. reader_intent z v place c (hold_of (atomic_table z v) party past) (here z v parties past run party c place called stage);
    }

pub record KeepsLock {T : Type 0} (z : Arithmetic T) (v : T) (past : List (Event T)) : Type 0 where
  pub told : TellsMemory (atomic_table z v) past
  pub exclusive : IsExclusive (holds_of (atomic_table z v) past)
  pub counts : CountsHolds (word_in (atomic_table z v) past Word.State) (holds_of (atomic_table z v) past)

pub keeps_lock : {T : Type 0} (z : Arithmetic T) (v : T) (parties : ℕ) (past : List (Event T)) → IsPast z (atomic_table z v) parties past → KeepsLock z v past
keeps_lock z v parties past run =
    let word = reader_lock_word z (atomic_table z v) parties (atomic_is_lock z v parties) past run in
    record { told = tells_memory z (atomic_table z v) parties past run; exclusive = reader_lock_exclusive _ _ word.counts; counts = word.counts }

-- No call is refused.

unrefused_at : {T : Type 0} (z : Arithmetic T) (v : T) (place : AtomicPlace T) (c : PendingCall T) (hold : Option HoldKind) (memory : Word → ℕ) → AtAtomic z place c hold → is_refusal (step_at (atomic_table z v) place hold memory).outcome ≡ false
unrefused_at z v place c hold memory h1 = grind (arith, nat_tests, eqb-true, eqb-false)

pub causes : {T : Type 0} (z : Arithmetic T) (v : T) (parties : ℕ) (past : List (Event T)) → IsPast z (atomic_table z v) parties past → HasCause AtomicCause past
causes z v parties [] run = tt
causes {T} z v parties (e ∷ past) run =
    let t = atomic_table z v in
    let unrefused : is_refusal e.then ≡ false =
    by_move t (call_of e.party past) (hold_of t e.party past) (word_in t past) (λ (k : Option (PendingCall T)) (m : Move T). is_refusal m.outcome ≡ false)
    run.0.0 (record { act = e.act; outcome = e.then }) (λ call _. refl) (λ action _. refl) (λ choice _. refl)
    (λ c place _ called stage. unrefused_at z v place c (hold_of t e.party past) (word_in t past) (here z v parties past run.1 e.party c place called stage))
    run.0.1.moved in
    rw unrefused tt

-- The words that an atomic does not have.
pub atomic_lacks : {T : Type 0} (z : Arithmetic T) (v : T) (word : Word) → same_word Word.State word ≡ false → same_word Word.Low word ≡ false → same_word Word.High word ≡ false → Lacks (atomic_table z v) word
atomic_lacks z v word h1 h2 h3 = grind (arith, nat_tests, eqb-true, eqb-false)
