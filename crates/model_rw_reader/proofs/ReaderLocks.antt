-- A lock of many readers or one writer: an object whose word counts read holds, and is 2^64 - 1 with the write hold.
use Rattle.model_rw_reader.proofs.Names.{◌≡◌, ◌≢◌, ℕ, ◌+◌, ◌-◌, ◌%◌, ◌^◌, ◌<◌, ◌==◌, refl, sym, ap, subst, Bool, cond, is_some, length, List, [], ◌∷◌, Option, Some, None, ◌⊎◌, inl, inr, ◌↔◌, arith, eqb-true, by_move, eqb-false, nat_tests, IsOneEach, without_one_each, without_counts, counted_of, both_kinds, unwritten_exclusive, written_exclusive, holds_after, without_only, Word, Act, Event, HoldKind, Intent, Arithmetic, carried_out, Table, Hold, PendingCall, call_of, holds_of, hold_of, hold_among, word_in, word_after, without, reads_in, writes_in, Move, stage_of, IsPast, IsExclusive, CountsHolds}

-- what a step of such an object may do to the lock's word: enter as a reader or as the writer, as far as its call grants that hold and its party has none; leave, by its party's hold
abbrev pub IsReaderIntent : {T : Type 0} → (ℕ → ℕ → Option HoldKind) → Option HoldKind → Intent T → Type 0
IsReaderIntent grant hold (Intent.Exchange Word.State from to) =
    (hold ≡ None) × (((to ≡ from + 1) × (from < 2 ^ 64 - 2) × (grant from to ≡ Some HoldKind.Read)) ⊎ ((from ≡ 0) × (to ≡ 2 ^ 64 - 1) × (grant from to ≡ Some HoldKind.Write)))
IsReaderIntent grant hold (Intent.Subtract Word.State less) = (less ≡ 1) × (hold ≡ Some HoldKind.Read)
IsReaderIntent grant hold (Intent.Store Word.State put) = (put ≡ 0) × (hold ≡ Some HoldKind.Write)
IsReaderIntent grant hold (Intent.Swap Word.State put) = ⊥
IsReaderIntent grant hold (Intent.Add Word.State more) = ⊥
IsReaderIntent grant hold other = Unit {0}

pub record IsReaderLock {T P : Type 0} (z : Arithmetic T) (t : Table T P) (parties : ℕ) : Type 0 where
  pub opens : t.opening Word.State ≡ 0
  pub steps :
      (past : List (Event T)) (party : ℕ) (c : PendingCall T) (place : P) → IsPast z t parties past → call_of party past ≡ Some c → stage_of t c ≡ Some place →
      IsReaderIntent (t.grant c.call) (hold_of t party past) (t.intent place (hold_of t party past))

-- the word counts the holds, of which each party has one at most
pub record IsKeptWord (w : ℕ) (holds : List Hold) : Type 0 where
  pub counts : CountsHolds w holds
  pub each : IsOneEach holds

nobody : IsKeptWord 0 []
nobody = record { counts = inl (record { counts = refl; unwritten = refl; fits = omega arith }); each = tt }

-- A reader enters.

one_reader_more : (p w to : ℕ) (holds : List Hold) → IsKeptWord w holds → hold_among p holds ≡ None → to ≡ w + 1 → w < 2 ^ 64 - 2 → IsKeptWord to ((p, HoldKind.Read) ∷ holds)
one_reader_more p w to holds h1 h2 h3 h4 = grind (arith, nat_tests, eqb-true, eqb-false)

-- The writer enters.

held_by_none : (holds : List Hold) → reads_in holds ≡ 0 → writes_in holds ≡ 0 → holds ≡ []
held_by_none [] reads writes = refl
held_by_none (hold ∷ holds) reads writes = absurd (omega (arith, both_kinds (hold ∷ holds), reads, writes))

pub free_exactly : (w : ℕ) (holds : List Hold) → CountsHolds w holds → (w ≡ 0) ↔ (holds ≡ [])
free_exactly w holds h1 = grind (arith, nat_tests, eqb-true, eqb-false, held_by_none)

the_writer : (p w to : ℕ) (holds : List Hold) → IsKeptWord w holds → w ≡ 0 → to ≡ 2 ^ 64 - 1 → IsKeptWord to ((p, HoldKind.Write) ∷ holds)
the_writer p w to holds law free full =
    let none : holds ≡ [] = (free_exactly w holds law.counts).0 free in
    let only : ◌≡◌ {A = List Hold} ((p, HoldKind.Write) ∷ holds) ((p, HoldKind.Write) ∷ []) = ap (λ (hs : List Hold). (p, HoldKind.Write) ∷ hs) none in
    record { counts = inr (record { is_full = full; writer = p; alone = only }); each = subst IsOneEach (sym only) (refl, tt) }

-- A reader leaves.

one_reader_less : (p w : ℕ) (holds : List Hold) → IsKeptWord w holds → hold_among p holds ≡ Some HoldKind.Read → IsKeptWord ((w + (2 ^ 64 - 1)) % 2 ^ 64) (without p holds)
one_reader_less p w holds h1 h2 = grind (arith, nat_tests, eqb-true, eqb-false, without_counts, without_one_each)

-- The writer leaves.

no_writer : (p w put : ℕ) (holds : List Hold) → IsKeptWord w holds → hold_among p holds ≡ Some HoldKind.Write → put ≡ 0 → IsKeptWord put (without p holds)
no_writer p w put holds h1 h2 h3 = grind (arith, nat_tests, eqb-true, eqb-false, counted_of, is_some, without_only, nobody)

-- A step keeps it.

entered :
    {T P : Type 0} (t : Table T P) (p : ℕ) (c : PendingCall T) (w from to : ℕ) (holds : List Hold) → IsKeptWord w holds → IsReaderIntent {T = T} (t.grant c.call) (hold_among p holds) (Intent.Exchange Word.State from to) →
    (b : Bool) → (w == from) ≡ b → IsKeptWord (cond b to w) (holds_after t p (Some c) (Act.Exchange Word.State from to w b) holds)
entered t p c w from to holds h1 h2 b h3 = grind (arith, nat_tests, eqb-true, eqb-false, holds_after, one_reader_more, the_writer)

step_keeps :
    {T P : Type 0} (t : Table T P) (p : ℕ) (c : PendingCall T) (memory : Word → ℕ) (holds : List Hold) (intent : Intent T) →
    IsKeptWord (memory Word.State) holds → IsReaderIntent (t.grant c.call) (hold_among p holds) intent →
    IsKeptWord (word_after Word.State (carried_out intent memory) (memory Word.State)) (holds_after t p (Some c) (carried_out intent memory) holds)
step_keeps t p c memory holds (Intent.Exchange Word.State from to) law is = entered t p c (memory Word.State) from to holds law is (memory Word.State == from) refl
step_keeps t p c memory holds (Intent.Subtract Word.State less) law is = rw is.0 (one_reader_less p (memory Word.State) holds law is.1)
step_keeps t p c memory holds (Intent.Store Word.State put) law is = no_writer p (memory Word.State) put holds law is.1 is.0
step_keeps t p c memory holds (Intent.Swap Word.State put) law is = absurd is
step_keeps t p c memory holds (Intent.Add Word.State more) law is = absurd is
step_keeps t p c memory holds other law is = law

-- at every prefix
pub reader_lock_word : {T P : Type 0} (z : Arithmetic T) (t : Table T P) (parties : ℕ) → IsReaderLock z t parties → (past : List (Event T)) → IsPast z t parties past → IsKeptWord (word_in t past Word.State) (holds_of t past)
reader_lock_word z t parties lock [] run = subst (λ w. IsKeptWord w []) (sym lock.opens) nobody
reader_lock_word {T} {P} z t parties lock (e ∷ past) run =
    let before = reader_lock_word z t parties lock past run.1 in
    by_move t (call_of e.party past) (hold_of t e.party past) (word_in t past)
    (λ (k : Option (PendingCall T)) (x : Move T). IsKeptWord (word_after Word.State x.act (word_in t past Word.State)) (holds_after t e.party k x.act (holds_of t past)))
    run.0.0 (record { act = e.act; outcome = e.then }) (λ call _. before) (λ action _. before) (λ choice _. before)
    (λ c place _ called stage. step_keeps t e.party c (word_in t past) (holds_of t past) (t.intent place (hold_of t e.party past)) before (lock.steps past e.party c place run.1 called stage))
    run.0.1.moved

-- What the word says of the holds.

pub reader_lock_exclusive : (w : ℕ) (holds : List Hold) → CountsHolds w holds → IsExclusive holds
reader_lock_exclusive w holds (inl read) = unwritten_exclusive holds read.unwritten
reader_lock_exclusive w holds (inr written) = subst IsExclusive (sym written.alone) (written_exclusive written.writer)

-- where the word is not 0 some hold stands
pub held_at : (w : ℕ) (holds : List Hold) → CountsHolds w holds → w ≢ 0 → 0 < length holds
held_at w holds h1 h2 = grind (arith, nat_tests, eqb-true, eqb-false, both_kinds)
