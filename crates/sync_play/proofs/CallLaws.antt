-- Each call that an object has is found by its name, and read back from its words.
use Rattle.sync_play.specs.Names.{ℕ, codes, Call, Input, Object, Arithmetic, IsValue, CallValues, has_call, Task, LineFault, name_of, calls_of, named, find, verbs, with_one, with_two, call_if, task_if, task_of, values_written, ◌>>=◌, only_two, Numerals, ReadsItsOwn}
use Rattle.sync_play.proofs.Names.{nat_tests, eqb-true, eqb-false, ◌≡◌, refl, ap, ◌∙◌, true, false, List, [], ◌∷◌, Some, None, Result, Ok, is_some, arith}
use Rattle.model_events.specs.IntegerLaws.{unsigned_value}
use Rattle.text_lines.specs.NumeralLaws.{unsigned_reads_back}
use Rattle.sync_play.specs.Calls.{CallsAreNamed, CallsAreReadBack}

-- a call without its values
abbrev bare : {T : Type 0} → Call T → Call Unit
bare Call.Lock = Call.Lock
bare Call.TryLock = Call.TryLock
bare Call.BlockingLock = Call.BlockingLock
bare Call.Unlock = Call.Unlock
bare Call.Value = Call.Value
bare (Call.Post n) = Call.Post 0
bare Call.Wait = Call.Wait
bare Call.TryWait = Call.TryWait
bare Call.ReadLock = Call.ReadLock
bare Call.TryReadLock = Call.TryReadLock
bare Call.WriteLock = Call.WriteLock
bare Call.TryWriteLock = Call.TryWriteLock
bare Call.NotifyOne = Call.NotifyOne
bare Call.NotifyAll = Call.NotifyAll
bare Call.CallOnce = Call.CallOnce
bare Call.IsCompleted = Call.IsCompleted
bare Call.Force = Call.Force
bare Call.Load = Call.Load
bare (Call.Store v) = Call.Store tt
bare (Call.Swap v) = Call.Swap tt
bare (Call.CompareExchange v w) = Call.CompareExchange tt tt
bare (Call.CompareExchangeWeak v w) = Call.CompareExchangeWeak tt tt
bare (Call.FetchAdd v) = Call.FetchAdd tt
bare (Call.FetchSub v) = Call.FetchSub tt
bare (Call.FetchAnd v) = Call.FetchAnd tt
bare (Call.FetchOr v) = Call.FetchOr tt
bare (Call.FetchXor v) = Call.FetchXor tt
bare (Call.FetchNand v) = Call.FetchNand tt
bare (Call.FetchMax v) = Call.FetchMax tt
bare (Call.FetchMin v) = Call.FetchMin tt
bare Call.FetchUpdate = Call.FetchUpdate

found : {T : Type 0} (o : Object T) (call : Call T) → has_call o call ≡ true → named (name_of call) (calls_of o) ≡ Some (bare call)
found o call h1 = grind (arith, nat_tests, eqb-true, eqb-false)

pub calls_are_named : {T : Type 0} → CallsAreNamed T
calls_are_named o call has = ap is_some (found o call has)

no_verb : {T : Type 0} (call : Call T) → find (name_of call) (verbs {T = T}) ≡ None
no_verb call = grind arith

abbrev pair : {A : Type 0} → A → A → Result (A × A) LineFault
pair first second = Ok (first, second)

two_read : {A : Type 0} (read : List ℕ → Result A LineFault) (a b : List ℕ) (v w : A) → read a ≡ Ok v → read b ≡ Ok w → only_two read (a ∷ b ∷ []) ≡ Ok (v, w)
two_read read a b v w h1 h2 = grind (arith, nat_tests, eqb-true, eqb-false)

module _ {T : Type 0} (z : Arithmetic T) (numerals : Numerals T) (own : ReadsItsOwn z numerals) where
  both : (call : Call Unit) (v w : T) → IsValue z v → IsValue z w →
      ((only_two numerals.value_of (numerals.decimal_of v ∷ numerals.decimal_of w ∷ []) >>= λ vs. Ok (with_two call vs.0 vs.1)) >>= λ begun. Ok (Task.Give (Input.Begin begun))) ≡ Ok (Task.Give (Input.Begin (with_two call v w)))
  both call v w p q = ap (λ (r : Result (T × T) LineFault). (r >>= λ vs. Ok (with_two call vs.0 vs.1)) >>= λ begun. Ok (Task.Give (Input.Begin begun))) (two_read numerals.value_of _ _ v w (own v p) (own w q))

  read_back : (call : Call T) → CallValues z call → call_if numerals (Some (bare call)) (values_written numerals call) ≡ Ok (Task.Give (Input.Begin call))
  read_back Call.Lock values = refl
  read_back Call.TryLock values = refl
  read_back Call.BlockingLock values = refl
  read_back Call.Unlock values = refl
  read_back Call.Value values = refl
  read_back (Call.Post n) values = ap (λ r. (r >>= λ m. Ok (Call.Post m)) >>= λ begun. Ok (Task.Give (Input.Begin begun))) (unsigned_reads_back (codes "atomic_u64") false n (unsigned_value false n values))
  read_back Call.Wait values = refl
  read_back Call.TryWait values = refl
  read_back Call.ReadLock values = refl
  read_back Call.TryReadLock values = refl
  read_back Call.WriteLock values = refl
  read_back Call.TryWriteLock values = refl
  read_back Call.NotifyOne values = refl
  read_back Call.NotifyAll values = refl
  read_back Call.CallOnce values = refl
  read_back Call.IsCompleted values = refl
  read_back Call.Force values = refl
  read_back Call.Load values = refl
  read_back (Call.Store v) values = ap (λ r. (r >>= λ x. Ok (with_one (Call.Store tt) x)) >>= λ begun. Ok (Task.Give (Input.Begin begun))) (own v values)
  read_back (Call.Swap v) values = ap (λ r. (r >>= λ x. Ok (with_one (Call.Swap tt) x)) >>= λ begun. Ok (Task.Give (Input.Begin begun))) (own v values)
  read_back (Call.CompareExchange v w) values = both (Call.CompareExchange tt tt) v w values.0 values.1
  read_back (Call.CompareExchangeWeak v w) values = both (Call.CompareExchangeWeak tt tt) v w values.0 values.1
  read_back (Call.FetchAdd v) values = ap (λ r. (r >>= λ x. Ok (with_one (Call.FetchAdd tt) x)) >>= λ begun. Ok (Task.Give (Input.Begin begun))) (own v values)
  read_back (Call.FetchSub v) values = ap (λ r. (r >>= λ x. Ok (with_one (Call.FetchSub tt) x)) >>= λ begun. Ok (Task.Give (Input.Begin begun))) (own v values)
  read_back (Call.FetchAnd v) values = ap (λ r. (r >>= λ x. Ok (with_one (Call.FetchAnd tt) x)) >>= λ begun. Ok (Task.Give (Input.Begin begun))) (own v values)
  read_back (Call.FetchOr v) values = ap (λ r. (r >>= λ x. Ok (with_one (Call.FetchOr tt) x)) >>= λ begun. Ok (Task.Give (Input.Begin begun))) (own v values)
  read_back (Call.FetchXor v) values = ap (λ r. (r >>= λ x. Ok (with_one (Call.FetchXor tt) x)) >>= λ begun. Ok (Task.Give (Input.Begin begun))) (own v values)
  read_back (Call.FetchNand v) values = ap (λ r. (r >>= λ x. Ok (with_one (Call.FetchNand tt) x)) >>= λ begun. Ok (Task.Give (Input.Begin begun))) (own v values)
  read_back (Call.FetchMax v) values = ap (λ r. (r >>= λ x. Ok (with_one (Call.FetchMax tt) x)) >>= λ begun. Ok (Task.Give (Input.Begin begun))) (own v values)
  read_back (Call.FetchMin v) values = ap (λ r. (r >>= λ x. Ok (with_one (Call.FetchMin tt) x)) >>= λ begun. Ok (Task.Give (Input.Begin begun))) (own v values)
  read_back Call.FetchUpdate values = refl

  pub calls_are_read_back : CallsAreReadBack z numerals
  unfolding task_of
  calls_are_read_back o call has values = ap (λ form. task_if numerals form (named (name_of call) (calls_of o)) (values_written numerals call)) (no_verb call) ∙ ap (λ k. call_if numerals k (values_written numerals call)) (found o call has) ∙ read_back call values
