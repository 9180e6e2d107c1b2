-- What each step of a writer-preferring lock does to its word, its holds and its mark.
use Rattle.model_rw_writer.proofs.Names.{eqb-false, nat_tests, ◌≡◌, ◌≢◌, ℕ, ◌+◌, ◌-◌, ◌%◌, ◌^◌, ◌<◌, ◌==◌, refl, sym, subst, Bool, true, false, cond, is_some, List, [], ◌∷◌, Option, Some, None, ◌⊎◌, inl, inr, arith, eqb-true, eqb_other, IsOneEach, without_one_each, without_counts, counted_of, both_kinds, unwritten_exclusive, written_exclusive, holds_after, without_only, Word, Call, Act, HoldKind, Intent, carried_out, Hold, PendingCall, hold_among, word_after, without, reads_in, writes_in, IsExclusive, is_mark, rw_writer_grant, rw_writer_table, is_writing, setter_after, CountsHolds}

-- What an exchange of the word may be: a reader enters, the writer enters, a writer sets the mark, or takes it away.

pub record IsReaderIn {T : Type 0} (call : Call T) (from to : ℕ) : Type 0 where
  pub reads : is_writing call ≡ false
  pub grants : rw_writer_grant call from to ≡ Some HoldKind.Read
  pub even : from % 2 ≡ 0
  pub fits : from < 2 ^ 64 - 4
  pub more : to ≡ from + 2

pub record IsWriterIn {T : Type 0} (call : Call T) (from to : ℕ) : Type 0 where
  pub writes : is_writing call ≡ true
  pub grants : rw_writer_grant call from to ≡ Some HoldKind.Write
  pub unheld : from < 2
  pub full : to ≡ 2 ^ 64 - 1

pub record IsMarking {T : Type 0} (call : Call T) (from to : ℕ) : Type 0 where
  pub writes : is_writing call ≡ true
  pub grants : rw_writer_grant call from to ≡ None
  pub even : from % 2 ≡ 0
  pub fits : from ≢ 2 ^ 64 - 2
  pub more : to ≡ from + 1

pub record IsUnmarking {T : Type 0} (call : Call T) (from to : ℕ) : Type 0 where
  pub writes : is_writing call ≡ true
  pub grants : rw_writer_grant call from to ≡ None
  pub odd : from % 2 ≡ 1
  pub below : from ≢ 2 ^ 64 - 1
  pub less : from ≡ to + 1

abbrev pub IsExchange : {T : Type 0} → Call T → ℕ → ℕ → Type 0
IsExchange call from to = IsReaderIn call from to ⊎ (IsWriterIn call from to ⊎ (IsMarking call from to ⊎ IsUnmarking call from to))

-- what a step may do to the word, by its call and its party's hold
abbrev pub IsWriterIntent : {T : Type 0} → Call T → Option HoldKind → Intent T → Type 0
IsWriterIntent call hold (Intent.Exchange Word.State from to) = (hold ≡ None) × IsExchange call from to
IsWriterIntent call hold (Intent.Subtract Word.State less) = (less ≡ 2) × (hold ≡ Some HoldKind.Read)
IsWriterIntent call hold (Intent.Store Word.State put) = (put ≡ 0) × (hold ≡ Some HoldKind.Write)
IsWriterIntent call hold (Intent.Swap Word.State put) = ⊥
IsWriterIntent call hold (Intent.Add Word.State more) = ⊥
IsWriterIntent call hold other = Unit {0}

-- the word counts the holds, of which each party has one at most, and the mark
pub record IsKeptWord (w : ℕ) (holds : List Hold) (marked : Bool) : Type 0 where
  pub counts : CountsHolds w holds marked
  pub each : IsOneEach holds

-- after a step: they are counted again, and a read hold more comes only where the mark was not set
pub record Keeps (holds : List Hold) (marked : Bool) (w : ℕ) (later : List Hold) (marked_later : Bool) : Type 0 where
  pub kept : IsKeptWord w later marked_later
  pub keeps_out : reads_in holds < reads_in later → marked ≡ false

pub nobody : IsKeptWord 0 [] false
nobody = record { counts = inl (record { counts = refl; unwritten = refl; fits = omega arith }); each = tt }

pub unchanged : (w : ℕ) (holds : List Hold) (marked : Bool) → IsKeptWord w holds marked → Keeps holds marked w holds marked
unchanged w holds marked law = record { kept = law; keeps_out = λ more. absurd (omega (arith, more)) }

reader_in : (p w to : ℕ) (holds : List Hold) (marked : Bool) → IsKeptWord w holds marked → hold_among p holds ≡ None → w % 2 ≡ 0 → w < 2 ^ 64 - 4 → to ≡ w + 2 → Keeps holds marked to ((p, HoldKind.Read) ∷ holds) marked
reader_in p w to holds marked h1 h2 h3 h4 h5 = grind (arith, nat_tests, eqb-true, eqb-false)

pub held_by_none : (holds : List Hold) → reads_in holds ≡ 0 → writes_in holds ≡ 0 → holds ≡ []
held_by_none [] reads writes = refl
held_by_none (hold ∷ holds) reads writes = absurd (omega (arith, both_kinds (hold ∷ holds), reads, writes))

writer_in : (p w to : ℕ) (holds : List Hold) (marked : Bool) → IsKeptWord w holds marked → w < 2 → to ≡ 2 ^ 64 - 1 → Keeps holds marked to ((p, HoldKind.Write) ∷ holds) false
writer_in p w to holds marked h1 h2 h3 = grind (arith, nat_tests, eqb-true, eqb-false, held_by_none)

mark_set : (w to : ℕ) (holds : List Hold) (marked : Bool) → IsKeptWord w holds marked → w % 2 ≡ 0 → to ≡ w + 1 → Keeps holds marked to holds true
mark_set w to holds marked h1 h2 h3 = grind (arith, nat_tests, eqb-true, eqb-false)

mark_gone : (w to : ℕ) (holds : List Hold) (marked : Bool) → IsKeptWord w holds marked → w % 2 ≡ 1 → w ≢ 2 ^ 64 - 1 → w ≡ to + 1 → Keeps holds marked to holds false
mark_gone w to holds marked h1 h2 h3 h4 = grind (arith, nat_tests, eqb-true, eqb-false)

reader_out : (p w : ℕ) (holds : List Hold) (marked : Bool) → IsKeptWord w holds marked → hold_among p holds ≡ Some HoldKind.Read → Keeps holds marked ((w + (2 ^ 64 - 2)) % 2 ^ 64) (without p holds) marked
reader_out p w holds marked h1 h2 = grind (arith, nat_tests, eqb-true, eqb-false, without_counts, without_one_each)

writer_out : (p w put : ℕ) (holds : List Hold) (marked : Bool) → IsKeptWord w holds marked → hold_among p holds ≡ Some HoldKind.Write → put ≡ 0 → Keeps holds marked put (without p holds) marked
writer_out p w put holds marked h1 h2 h3 = grind (arith, nat_tests, eqb-true, eqb-false, counted_of, is_some, without_only, nobody)

-- A done exchange, by what it is.

pub no_mark : (from to : ℕ) → to ≢ from + 1 → is_mark from to ≡ false
no_mark from to other = eqb_other to (from + 1) (λ is. other (sym is))

pub is_marking : (from to : ℕ) → to ≡ from + 1 → is_mark from to ≡ true
is_marking from to h1 = grind (arith, nat_tests, eqb-true, eqb-false)

exchanged :
    {T : Type 0} (p : ℕ) (c : PendingCall T) (w from to : ℕ) (holds : List Hold) (setter : Option ℕ) → IsKeptWord w holds (is_some setter) → hold_among p holds ≡ None → IsExchange c.call from to → (b : Bool) → (w == from) ≡ b →
    Keeps holds (is_some setter) (cond b to w) (holds_after {T = T} rw_writer_table p (Some c) (Act.Exchange Word.State from to w b) holds)
    (is_some (setter_after {T = T} p (Act.Exchange Word.State from to w b) (Some c) setter))
exchanged p c w from to holds setter h1 h2 h3 b h4 = grind (arith, nat_tests, eqb-true, eqb-false, unchanged, is_some, reader_in, no_mark, writer_in, is_marking, mark_set, mark_gone)

pub step_keeps :
    {T : Type 0} (p : ℕ) (c : PendingCall T) (memory : Word → ℕ) (holds : List Hold) (setter : Option ℕ) (intent : Intent T) →
    IsKeptWord (memory Word.State) holds (is_some setter) → IsWriterIntent c.call (hold_among p holds) intent →
    Keeps holds (is_some setter) (word_after Word.State (carried_out intent memory) (memory Word.State)) (holds_after rw_writer_table p (Some c) (carried_out intent memory) holds)
    (is_some (setter_after p (carried_out intent memory) (Some c) setter))
step_keeps p c memory holds setter (Intent.Exchange Word.State from to) law is = exchanged p c (memory Word.State) from to holds setter law is.0 is.1 (memory Word.State == from) refl
step_keeps p c memory holds setter (Intent.Subtract Word.State less) law is = rw is.0 (reader_out p (memory Word.State) holds (is_some setter) law is.1)
step_keeps p c memory holds setter (Intent.Store Word.State put) law is = writer_out p (memory Word.State) put holds (is_some setter) law is.1 is.0
step_keeps p c memory holds setter (Intent.Swap Word.State put) law is = absurd is
step_keeps p c memory holds setter (Intent.Add Word.State more) law is = absurd is
step_keeps p c memory holds setter other law is = unchanged (memory Word.State) holds (is_some setter) law

-- What the word says of the holds and the mark.

pub writer_lock_exclusive : (w : ℕ) (holds : List Hold) (marked : Bool) → CountsHolds w holds marked → IsExclusive holds
writer_lock_exclusive w holds marked (inl read) = unwritten_exclusive holds read.unwritten
writer_lock_exclusive w holds marked (inr written) = subst IsExclusive (sym written.alone) (written_exclusive written.writer)
