-- The steps of an atomic are those of its table.
use Rattle.running_atomic.proofs.Names.{Word, Call, Answer, HoldKind, Intent, After, Arithmetic, IsValue, CallValues, AtomicPlace, look_at, puts, inside, compares, knows, Slot, Parties, Coming, Going, Beginning, Choosing, ComesBy, Leads, HasEnded, HasCalled, MayStep, Went, ◌≡◌, ◌≢◌, ℕ, ◌+◌, ◌-◌, ◌^◌, ◌<◌, ◌≤◌, Bool, false, refl, subst, List, Option, Some, None, arith, nat_tests, atomic_model, atomic_names, Writes, IsNext, Reads, Knows, Puts, ComesToPut, MayPut, IsAtPutHigh, HasPut, eqb-true, eqb-false}
use Rattle.running_atomic.specs.Names.{all_of}

-- what a look of the lock's function means, by whether it answers the next word

pub reads_some : (seen to : ℕ) (answer : Option ℕ) → (seen < 2 ^ 64 - 2 → answer ≡ Some (seen + 1)) → (2 ^ 64 - 2 ≤ seen → answer ≡ None) → answer ≡ Some to → (seen < 2 ^ 64 - 2) × (to ≡ seen + 1)
reads_some seen to answer h1 h2 h3 = grind (arith, nat_tests, eqb-true, eqb-false)

pub reads_none : (seen : ℕ) (answer : Option ℕ) → (seen < 2 ^ 64 - 2 → answer ≡ Some (seen + 1)) → answer ≡ None → 2 ^ 64 - 2 ≤ seen
reads_none seen answer one_more is = let no_room : seen < 2 ^ 64 - 2 → ⊥ = λ room. let more = one_more room in cc in omega (arith, no_room)

module _ {T : Type 0} (z : Arithmetic T) (v : T) where
  -- `Load` takes the lock

  load_begins : (p : Parties T) → ComesBy (atomic_model z v) (Beginning Call.Load) Call.Load AtomicPlace.Look None (all_of p) p
  load_begins p = (refl, record { may = record { begins = refl; free = refl; values = tt }; new = refl; others = refl })

  pub may_look_first : (p : Parties T) → MayStep (atomic_model z v) atomic_names (Beginning Call.Load) 0 (λ w. Intent.Load w) p
  may_look_first p = grind (arith, nat_tests, eqb-true, eqb-false, load_begins p)

  pub looks_first : (found : ℕ) (p q : Parties T) → Went (atomic_model z v) (Beginning Call.Load) p found q → IsNext z v Call.Load (look_at found) None (all_of p) q
  looks_first found p q went = went Call.Load AtomicPlace.Look None (all_of p) (load_begins p)

  -- where readers may not come in, it looks again

  pub may_look_again : (seen : ℕ) (done : List (Slot T)) (p : Parties T) → 2 ^ 64 - 2 ≤ seen → IsNext z v Call.Load (look_at seen) None done p → MayStep (atomic_model z v) atomic_names Going 0 (λ w. Intent.Load w) p
  may_look_again seen done p h1 h2 = grind (arith, nat_tests, eqb-true, eqb-false)

  pub looks_again : (seen found : ℕ) (done : List (Slot T)) (p q : Parties T) → 2 ^ 64 - 2 ≤ seen → IsNext z v Call.Load (look_at seen) None done p → Went (atomic_model z v) Going p found q →
      IsNext z v Call.Load (look_at found) None done q
  looks_again seen found done p q h1 h2 h3 = grind (arith, nat_tests, eqb-true, eqb-false)

  -- where they may, it comes in

  pub may_enter : (seen to : ℕ) (done : List (Slot T)) (p : Parties T) → seen < 2 ^ 64 - 2 → to ≡ seen + 1 → IsNext z v Call.Load (look_at seen) None done p →
      MayStep (atomic_model z v) atomic_names Going 0 (λ w. Intent.Exchange w seen to) p
  may_enter seen to done p h1 h2 h3 = grind (arith, nat_tests, eqb-true, eqb-false)

  pub enters : (seen found : ℕ) (done : List (Slot T)) (p q : Parties T) → seen < 2 ^ 64 - 2 → found ≡ seen → IsNext z v Call.Load (look_at seen) None done p → Went (atomic_model z v) Going p found q →
      IsNext z v Call.Load (AtomicPlace.Low Call.Load) (Some HoldKind.Read) done q
  enters seen found done p q h1 h2 h3 h4 = grind (arith, nat_tests, eqb-true, eqb-false)

  pub turned_away : (seen found : ℕ) (done : List (Slot T)) (p q : Parties T) → seen < 2 ^ 64 - 2 → found ≢ seen → IsNext z v Call.Load (look_at seen) None done p → Went (atomic_model z v) Going p found q →
      IsNext z v Call.Load (look_at found) None done q
  turned_away seen found done p q h1 h2 h3 h4 = grind (arith, nat_tests, eqb-true, eqb-false)

  -- The other calls take it.

  call_begins : (call : Call T) (p : Parties T) → Writes z v call → CallValues z call → ComesBy (atomic_model z v) (Beginning call) call (AtomicPlace.Take call) None (all_of p) p
  call_begins call p w values = (refl, record { may = record { begins = w.begins; free = w.free; values = values }; new = refl; others = refl })

  pub may_take_again : (call : Call T) (done : List (Slot T)) (p : Parties T) → IsNext z v call (AtomicPlace.Take call) None done p → MayStep (atomic_model z v) atomic_names Going 0 (λ w. Intent.Exchange w 0 (2 ^ 64 - 1)) p
  may_take_again call done p h1 = grind (arith, nat_tests, eqb-true, eqb-false)

  pub takes_first : (call : Call T) (found : ℕ) (p q : Parties T) → Writes z v call → CallValues z call → found ≡ 0 → Went (atomic_model z v) (Beginning call) p found q → IsNext z v call (inside z call) (Some HoldKind.Write) (all_of p) q
  takes_first call found p q w values hit went = grind (arith, nat_tests, eqb-true, eqb-false, went call (AtomicPlace.Take call) None (all_of p) (call_begins call p w values))

  pub misses_first : (call : Call T) (found : ℕ) (p q : Parties T) → Writes z v call → CallValues z call → found ≢ 0 → Went (atomic_model z v) (Beginning call) p found q → IsNext z v call (AtomicPlace.Take call) None (all_of p) q
  misses_first call found p q w values miss went = grind (arith, nat_tests, eqb-true, eqb-false, went call (AtomicPlace.Take call) None (all_of p) (call_begins call p w values))

  pub takes_again : (call : Call T) (found : ℕ) (done : List (Slot T)) (p q : Parties T) → Writes z v call → found ≡ 0 → IsNext z v call (AtomicPlace.Take call) None done p → Went (atomic_model z v) Going p found q →
      IsNext z v call (inside z call) (Some HoldKind.Write) done q
  takes_again call found done p q w hit at went = grind (arith, nat_tests, eqb-true, eqb-false, went call (AtomicPlace.Take call) None done at)

  pub misses_again : (call : Call T) (found : ℕ) (done : List (Slot T)) (p q : Parties T) → found ≢ 0 → IsNext z v call (AtomicPlace.Take call) None done p → Went (atomic_model z v) Going p found q → IsNext z v call (AtomicPlace.Take call) None done q
  misses_again call found done p q miss at went = grind (arith, nat_tests, eqb-true, eqb-false, went call (AtomicPlace.Take call) None done at)

  -- It reads the two words.

  pub reads_next : (call : Call T) (done : List (Slot T)) (p : Parties T) → Reads z call → IsNext z v call (inside z call) (Some HoldKind.Write) done p → IsNext z v call (AtomicPlace.Low call) (Some HoldKind.Write) done p
  reads_next call done p is at = subst (λ (place : AtomicPlace T). IsNext z v call place (Some HoldKind.Write) done p) is at

  pub may_read_low : (call : Call T) (hold : Option HoldKind) (done : List (Slot T)) (p : Parties T) → IsNext z v call (AtomicPlace.Low call) hold done p → MayStep (atomic_model z v) atomic_names Going 1 (λ w. Intent.Load w) p
  may_read_low call hold done p at = record { call = call; place = AtomicPlace.Low call; hold = hold; done = done; comes = at; name = Word.Low; named = refl; intends = refl; on = refl }

  pub reads_low : (call : Call T) (hold : Option HoldKind) (done : List (Slot T)) (low : ℕ) (p q : Parties T) → IsNext z v call (AtomicPlace.Low call) hold done p → Went (atomic_model z v) Going p low q → IsNext z v call (AtomicPlace.High call low) hold done q
  reads_low call hold done low p q at went = went call (AtomicPlace.Low call) hold done at

  pub may_read_high : (call : Call T) (low : ℕ) (hold : Option HoldKind) (done : List (Slot T)) (p : Parties T) → IsNext z v call (AtomicPlace.High call low) hold done p → MayStep (atomic_model z v) atomic_names Going 2 (λ w. Intent.Load w) p
  may_read_high call low hold done p at = record { call = call; place = AtomicPlace.High call low; hold = hold; done = done; comes = at; name = Word.High; named = refl; intends = refl; on = refl }

  pub reads_high : (call : Call T) (low high : ℕ) (hold : Option HoldKind) (done : List (Slot T)) (p q : Parties T) → IsNext z v call (AtomicPlace.High call low) hold done p → Went (atomic_model z v) Going p high q →
      Leads (atomic_model z v) call (knows z call (z.of_words low high)) hold done q
  reads_high call low high hold done p q at went = went call (AtomicPlace.High call low) hold done at

  -- the high word once more, where a `FetchUpdate` was given no choice

  pub nothing_chosen : (old : T) (done : List (Slot T)) (p : Parties T) → Knows z v Call.FetchUpdate old done p → ComesBy (atomic_model z v) (Choosing None) Call.FetchUpdate (AtomicPlace.Again old) (Some HoldKind.Write) done p
  nothing_chosen old done p at = record { stood = AtomicPlace.Again old; old = old; at = at; chosen = refl; values = tt }

  pub may_read_again : (old : T) (done : List (Slot T)) (p : Parties T) → Knows z v Call.FetchUpdate old done p → MayStep (atomic_model z v) atomic_names (Choosing None) 2 (λ w. Intent.Load w) p
  may_read_again old done p at =
      record { call = Call.FetchUpdate; place = AtomicPlace.Again old; hold = Some HoldKind.Write; done = done; comes = nothing_chosen old done p at; name = Word.High; named = refl; intends = refl; on = refl }

  pub reads_again : (old : T) (found : ℕ) (done : List (Slot T)) (p q : Parties T) → Knows z v Call.FetchUpdate old done p → Went (atomic_model z v) (Choosing None) p found q →
      IsNext z v Call.FetchUpdate (AtomicPlace.Leave (Answer.ErrOld old)) (Some HoldKind.Write) done q
  reads_again old found done p q at went = went Call.FetchUpdate (AtomicPlace.Again old) (Some HoldKind.Write) done (nothing_chosen old done p at)

  -- It puts a value: both words, one after the other, and then it leaves.

  pub something_chosen : (old new : T) (done : List (Slot T)) (p : Parties T) → IsValue z new → Knows z v Call.FetchUpdate old done p → ComesToPut z v (Choosing (Some new)) Call.FetchUpdate new (Answer.OkOld old) done p
  something_chosen old new done p value at = record { stood = AtomicPlace.Again old; old = old; at = at; chosen = refl; values = value }

  pub may_put_low : (coming : Coming T) (call : Call T) (new : T) (low : ℕ) (p : Parties T) → low ≡ z.low new → MayPut z v coming call new p → MayStep (atomic_model z v) atomic_names coming 1 (λ w. Intent.Store w low) p
  may_put_low coming call new low p h1 h2 = grind (arith, nat_tests, eqb-true, eqb-false)

  -- the high word is next
  abbrev pub PutsHigh : Coming T → T → Parties T → Parties T → Type 0
  PutsHigh coming new p q = (call : Call T) (answer : Answer T) (done : List (Slot T)) → ComesToPut z v coming call new answer done p → IsNext z v call (AtomicPlace.PutHigh (z.high new) answer) (Some HoldKind.Write) done q

  pub puts_low : (coming : Coming T) (new : T) (low : ℕ) (p q : Parties T) → low ≡ z.low new → Went (atomic_model z v) coming p low q → PutsHigh coming new p q
  puts_low coming new low p q is went call answer done comes = went call (puts z new answer) (Some HoldKind.Write) done comes

  pub may_put_high : (coming : Coming T) (call : Call T) (new : T) (high : ℕ) (p q : Parties T) → high ≡ z.high new → MayPut z v coming call new p → PutsHigh coming new p q → MayStep (atomic_model z v) atomic_names Going 2 (λ w. Intent.Store w high) q
  may_put_high coming call new high p q h1 h2 h3 = grind (arith, nat_tests, eqb-true, eqb-false)

  pub at_put_high : (coming : Coming T) (call : Call T) (new : T) (high : ℕ) (p q : Parties T) → high ≡ z.high new → MayPut z v coming call new p → PutsHigh coming new p q → IsAtPutHigh z v call high q
  at_put_high coming call new high p q h1 h2 h3 = grind (arith, nat_tests, eqb-true, eqb-false)

  -- the release is next
  abbrev pub Releases : Coming T → T → Parties T → Parties T → Type 0
  Releases coming new p q = (call : Call T) (answer : Answer T) (done : List (Slot T)) → ComesToPut z v coming call new answer done p → IsNext z v call (AtomicPlace.Leave answer) (Some HoldKind.Write) done q

  pub puts_high : (coming : Coming T) (new : T) (high : ℕ) (p q r : Parties T) → PutsHigh coming new p q → Went (atomic_model z v) Going q high r → Releases coming new p r
  puts_high coming new high p q r next went call answer done comes = went call (AtomicPlace.PutHigh (z.high new) answer) (Some HoldKind.Write) done (next call answer done comes)

  pub may_leave : (call : Call T) (answer : Answer T) (done : List (Slot T)) (p : Parties T) → IsNext z v call (AtomicPlace.Leave answer) (Some HoldKind.Write) done p → MayStep (atomic_model z v) atomic_names Going 0 (λ w. Intent.Store w 0) p
  may_leave call answer done p at = record { call = call; place = AtomicPlace.Leave answer; hold = Some HoldKind.Write; done = done; comes = at; name = Word.State; named = refl; intends = refl; on = refl }

  pub leaves : (call : Call T) (answer : Answer T) (done : List (Slot T)) (p q : Parties T) → IsNext z v call (AtomicPlace.Leave answer) (Some HoldKind.Write) done p → Went (atomic_model z v) Going p 0 q → HasEnded (atomic_model z v) call answer None done q
  leaves call answer done p q at went = went call (AtomicPlace.Leave answer) (Some HoldKind.Write) done at

  pub has_put : (coming : Coming T) (new : T) (p q r : Parties T) → Releases coming new p q → Went (atomic_model z v) Going q 0 r → HasPut z v coming new p r
  has_put coming new p q r next went call answer done comes = leaves call answer done q r (next call answer done comes) went

  pub may_leave_reading : (call : Call T) (answer : Answer T) (done : List (Slot T)) (p : Parties T) → IsNext z v call (AtomicPlace.Leave answer) (Some HoldKind.Read) done p → MayStep (atomic_model z v) atomic_names Going 0 (λ w. Intent.Subtract w 1) p
  may_leave_reading call answer done p at = record { call = call; place = AtomicPlace.Leave answer; hold = Some HoldKind.Read; done = done; comes = at; name = Word.State; named = refl; intends = refl; on = refl }

  pub leaves_reading : (call : Call T) (answer : Answer T) (done : List (Slot T)) (found : ℕ) (p q : Parties T) → IsNext z v call (AtomicPlace.Leave answer) (Some HoldKind.Read) done p → Went (atomic_model z v) Going p found q →
      HasEnded (atomic_model z v) call answer None done q
  leaves_reading call answer done found p q at went = went call (AtomicPlace.Leave answer) (Some HoldKind.Read) done at

  -- a call that knows the old value comes to put the new one
  pub comes_to_put : (call : Call T) (old new : T) (answer : Answer T) (done : List (Slot T)) (p : Parties T) → Puts z call old new answer → Knows z v call old done p → ComesToPut z v Going call new answer done p
  comes_to_put call old new answer done p is at = subst (λ a. Leads (atomic_model z v) call a (Some HoldKind.Write) done p) is at

  -- whatever the call is written as
  pub may_put : (call other : Call T) (new : T) (answer : Answer T) (done : List (Slot T)) (p : Parties T) → call ≡ other → IsNext z v call (puts z new answer) (Some HoldKind.Write) done p → MayPut z v Going other new p
  may_put call other new answer done p is at = (answer, done, subst (λ (k : Call T). IsNext z v k (puts z new answer) (Some HoldKind.Write) done p) is at)

  -- where its act answers so, it does
  pub answers_so : (call : Call T) (one other : Answer T) (p q : Parties T) → one ≡ other → HasCalled (atomic_model z v) call one None p q → HasCalled (atomic_model z v) call other None p q
  answers_so call one other p q is called = subst (λ (x : Answer T). HasCalled (atomic_model z v) call x None p q) is called

  -- a call that compares and found another value leaves next
  pub differs : (call : Call T) (current old new : T) (done : List (Slot T)) (p : Parties T) → knows z call old ≡ After.At (compares z (z.same old current) old new) → z.same old current ≡ false → Knows z v call old done p →
      IsNext z v call (AtomicPlace.Leave (Answer.ErrOld old)) (Some HoldKind.Write) done p
  differs call current old new done p goes is at = subst (λ (b : Bool). IsNext z v call (compares z b old new) (Some HoldKind.Write) done p) is (subst (λ a. Leads (atomic_model z v) call a (Some HoldKind.Write) done p) goes at)
