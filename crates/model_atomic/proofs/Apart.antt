-- Who reads and writes the data words: only who has the lock, and a writer is alone.
use Rattle.model_atomic.proofs.Names.{◌≡◌, ◌≢◌, ℕ, ◌<◌, refl, subst, true, is_some, List, [], ◌∷◌, Option, Some, None, arith, eqb-true, false≢true, counted_of, IsAtPlaceOrRests, each_rests, by_move, eqb-false, nat_tests, MatchOption, Word, Event, HoldKind, Arithmetic, Hold, PendingCall, call_of, holds_of, hold_of, hold_among, word_in, Move, step_at, IsPast, acts_in, CountsHolds, AtomicPlace, is_data_access, atomic_table, AccessesUnderHold, IsAlone, accesses_to_write, WritesAlone, FewAccesses, RestsWithout}
use Rattle.model_atomic.proofs.Places.{AtAtomic, HasNone, atomic_kept, here}
use Rattle.model_atomic.proofs.Laws.{keeps_lock}

-- beside the writer nobody has a hold
pub alone : (w p q : ℕ) (holds : List Hold) → CountsHolds w holds → hold_among p holds ≡ Some HoldKind.Write → q ≢ p → hold_among q holds ≡ None
alone w p q holds h1 h2 h3 = grind (arith, nat_tests, eqb-true, eqb-false, counted_of)

-- a call without the lock has read and written no data word
untouched_outside : {T : Type 0} (z : Arithmetic T) (place : AtomicPlace T) (c : PendingCall T) → AtAtomic z place c None → acts_in is_data_access c.own ≡ 0
untouched_outside z place c h1 = grind (arith, nat_tests, eqb-true, eqb-false)

-- the step at a place reads or writes a data word only under a hold, and writes one only under the write hold;

accessed_at :
    {T : Type 0} (z : Arithmetic T) (v : T) (place : AtomicPlace T) (c : PendingCall T) (hold : Option HoldKind) (memory : Word → ℕ) → AtAtomic z place c hold → is_data_access (step_at (atomic_table z v) place hold memory).act ≡ true →
    is_some hold ≡ true
accessed_at z v place c hold memory h1 h2 = grind (arith, nat_tests, eqb-true, eqb-false)

written_at :
    {T : Type 0} (z : Arithmetic T) (v : T) (place : AtomicPlace T) (c : PendingCall T) (hold : Option HoldKind) (memory : Word → ℕ) → AtAtomic z place c hold → accesses_to_write (step_at (atomic_table z v) place hold memory).act (Some c) ≡ true →
    hold ≡ Some HoldKind.Write
written_at z v place c hold memory h1 h2 = grind (arith, nat_tests, eqb-true, eqb-false)

pub accesses : {T : Type 0} (z : Arithmetic T) (v : T) (parties : ℕ) (past : List (Event T)) → IsPast z (atomic_table z v) parties past → AccessesUnderHold z v past
accesses z v parties [] run = tt
accesses {T} z v parties (e ∷ past) run =
    let t = atomic_table z v in
    by_move t (call_of e.party past) (hold_of t e.party past) (word_in t past) (λ (k : Option (PendingCall T)) (m : Move T). is_data_access m.act ≡ true → is_some (hold_of t e.party past) ≡ true)
    run.0.0 (record { act = e.act; outcome = e.then }) (λ call _ is. absurd (false≢true is)) (λ action _ is. absurd (false≢true is)) (λ choice _ is. absurd (false≢true is))
    (λ c place _ called stage. accessed_at z v place c (hold_of t e.party past) (word_in t past) (here z v parties past run.1 e.party c place called stage))
    run.0.1.moved

-- a call has made few accesses

few_at : {T : Type 0} (z : Arithmetic T) (place : AtomicPlace T) (c : PendingCall T) (hold : Option HoldKind) → AtAtomic z place c hold → acts_in is_data_access c.own < 5
few_at z place c hold h1 = grind (arith, nat_tests, eqb-true, eqb-false)

pub few_accesses : {T : Type 0} (z : Arithmetic T) (v : T) (parties : ℕ) (past : List (Event T)) → IsPast z (atomic_table z v) parties past → FewAccesses past
few_accesses {T} z v parties past run party = by_call (call_of party past) refl
  where
    by_call : (pending : Option (PendingCall T)) → call_of party past ≡ pending → MatchOption pending (Unit {0}) (λ c. acts_in is_data_access c.own < 5)
    by_call None called = tt
    by_call (Some c) called =
        let at = subst (λ (k : Option (PendingCall T)). IsAtPlaceOrRests (atomic_table z v) HasNone (AtAtomic z) k (hold_of (atomic_table z v) party past)) called
        (each_rests z (atomic_table z v) HasNone (AtAtomic z) (atomic_kept z v) parties refl past run party) in
        few_at z at.0 c (hold_of (atomic_table z v) party past) at.2

pub rests_without : {T : Type 0} (z : Arithmetic T) (v : T) (parties : ℕ) (past : List (Event T)) → IsPast z (atomic_table z v) parties past → RestsWithout z v past
rests_without {T} z v parties past run party none =
    subst (λ (k : Option (PendingCall T)). IsAtPlaceOrRests (atomic_table z v) HasNone (AtAtomic z) k (hold_of (atomic_table z v) party past)) none
    (each_rests z (atomic_table z v) HasNone (AtAtomic z) (atomic_kept z v) parties refl past run party)

-- beside a writer no other call has touched the data
others_untouched :
    {T : Type 0} (z : Arithmetic T) (v : T) (parties : ℕ) (past : List (Event T)) → IsPast z (atomic_table z v) parties past → (party : ℕ) → hold_of (atomic_table z v) party past ≡ Some HoldKind.Write →
    (other : ℕ) → other ≢ party → MatchOption (call_of other past) (Unit {0}) (λ c. acts_in is_data_access c.own ≡ 0)
others_untouched {T} z v parties past run party held other differs = by_call (call_of other past) refl
  where
    none : hold_of (atomic_table z v) other past ≡ None
    none = alone (word_in (atomic_table z v) past Word.State) party other (holds_of (atomic_table z v) past) (keeps_lock z v parties past run).counts held differs

    by_call : (pending : Option (PendingCall T)) → call_of other past ≡ pending → MatchOption pending (Unit {0}) (λ c. acts_in is_data_access c.own ≡ 0)
    by_call None called = tt
    by_call (Some c) called =
        let at = subst (λ (k : Option (PendingCall T)). IsAtPlaceOrRests (atomic_table z v) HasNone (AtAtomic z) k (hold_of (atomic_table z v) other past)) called
        (each_rests z (atomic_table z v) HasNone (AtAtomic z) (atomic_kept z v) parties refl past run other) in
        untouched_outside z at.0 c (subst (λ h. AtAtomic z at.0 c h) none at.2)

pub writes_alone : {T : Type 0} (z : Arithmetic T) (v : T) (parties : ℕ) (past : List (Event T)) → IsPast z (atomic_table z v) parties past → WritesAlone z v past
writes_alone z v parties [] run = tt
writes_alone {T} z v parties (e ∷ past) run =
    let t = atomic_table z v in
    by_move t (call_of e.party past) (hold_of t e.party past) (word_in t past) (λ (k : Option (PendingCall T)) (m : Move T). accesses_to_write m.act k ≡ true → IsAlone z v e.party past)
    run.0.0 (record { act = e.act; outcome = e.then }) (λ call _ is. absurd (false≢true is)) (λ action _ is. absurd (false≢true is)) (λ choice _ is. absurd (false≢true is))
    (λ c place _ called stage is.
    let held = written_at z v place c (hold_of t e.party past) (word_in t past) (here z v parties past run.1 e.party c place called stage) is in
    record { held = held; untouched = others_untouched z v parties past run.1 e.party held })
    run.0.1.moved
