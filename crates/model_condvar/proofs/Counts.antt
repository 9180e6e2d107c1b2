-- The waiter count and the parties that wait: each event changes both alike.
use Rattle.model_condvar.proofs.Names.{◌≡◌, ◌≢◌, ℕ, ◌+◌, ◌-◌, ◌%◌, ◌^◌, ◌==◌, refl, sym, subst, Bool, true, false, cond, List, [], ◌∷◌, length, ◌⊎◌, inl, inr, arith, eqb_tells, eqb_other, eqb-true, eqb-false, nat_tests, Word, Event, call_of, call_after, word_in, word_after, condvar_table, is_count, is_counted, without, times, CountsWaiters}

-- what an event does to the count: nothing; or its call, which was not counted, adds itself; or it was, and subtracts itself
abbrev pub CountEffect : ℕ → ℕ → Bool → Bool → Bool → Type 0
CountEffect before after counts was is =
    ((counts ≡ false) × (after ≡ before) × (is ≡ was))
    ⊎ (((counts ≡ true) × (after ≡ (before + 1) % 2 ^ 64) × (was ≡ false) × (is ≡ true))
    ⊎ ((counts ≡ true) × (after ≡ (before + (2 ^ 64 - 1)) % 2 ^ 64) × (was ≡ true) × (is ≡ false)))

-- a party taken out of a list

gone : (p : ℕ) (parties : List ℕ) → times p (without p parties) ≡ 0
gone p [] = refl
gone p (q ∷ parties) = by_test (gone p parties) (q == p) refl
  where
    by_test : times p (without p parties) ≡ 0 → (b : Bool) → (q == p) ≡ b → times p (cond b (without p parties) (q ∷ without p parties)) ≡ 0
    by_test rest true is = rest
    by_test rest false is = rw is (omega (arith, rest))

others_stay : (p r : ℕ) (parties : List ℕ) → p ≢ r → times r (without p parties) ≡ times r parties
others_stay p r [] other = refl
others_stay p r (q ∷ parties) other = by_test (others_stay p r parties other) (eqb_tells q p)
  where
    by_test : times r (without p parties) ≡ times r parties → (((q == p) ≡ true) × (q ≡ p)) ⊎ (((q == p) ≡ false) × (q ≢ p)) → times r (without p (q ∷ parties)) ≡ times r (q ∷ parties)
    by_test rest (inl is) =
        let apart : (q == r) ≡ false = subst (λ n. (n == r) ≡ false) (sym is.1) (eqb_other p r (λ same. other (sym same))) in
        rw (is.0, apart) (omega (arith, rest))
    by_test rest (inr is) = rw is.0 (omega (arith, rest))

shorter : (p : ℕ) (parties : List ℕ) → length (without p parties) + times p parties ≡ length parties
shorter p [] = refl
shorter p (q ∷ parties) = by_test (shorter p parties) (q == p) refl
  where
    by_test : length (without p parties) + times p parties ≡ length parties → (b : Bool) → (q == p) ≡ b → length (cond b (without p parties) (q ∷ without p parties)) + (cond b 1 0 + times p parties) ≡ length {A = ℕ} (q ∷ parties)
    by_test rest true is = omega (arith, rest)
    by_test rest false is = omega (arith, rest)

-- one more event

pub none_wait : {T : Type 0} → CountsWaiters {T = T} []
none_wait = record { counts = refl; exactly = λ party. refl }

pub counts_after :
    {T : Type 0} (past : List (Event T)) (e : Event T) → CountsWaiters past →
    CountEffect (word_in condvar_table past Word.Waiters) (word_after Word.Waiters e.act (word_in condvar_table past Word.Waiters)) (is_count e.act) (is_counted (call_of e.party past)) (is_counted (call_after e.then e (call_of e.party past))) →
    CountsWaiters (e ∷ past)
counts_after past e h1 h2 = grind (arith, nat_tests, eqb-true, eqb-false, eqb_tells, shorter, gone, others_stay)
