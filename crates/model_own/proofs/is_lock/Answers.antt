use Rattle.std.proofs.Common.{◌≡◌, ◌≢◌, ℕ, ◌+◌, ◌<◌, ◌≤◌, ◌==◌, ◌⊎◌, inl, inr, true, false, subst, sym, ◌∙◌, arith}
use Rattle.std.proofs.lemmas.Bool.Decides.{eqb_tells, leb_tells}
use lib.Dec.{leb}
use Rattle.std.specs.Prelude.{slice_get}
use Rattle.model_own.specs.OneHolder.{fits_row}
use Rattle.model_own.proofs.OneHolderLaws.{fits_beyond}
use Rattle.model_own.proofs.is_lock.Goals as goal

one_more : (P : ℕ → Type 0) (n : ℕ) → ((i : ℕ) → i < n → P i) → P n → (i : ℕ) → i < n + 1 → P i
one_more P n below here i within = by (eqb_tells n i)
  where
    by : (((n == i) ≡ true) × (n ≡ i)) ⊎ (((n == i) ≡ false) × (n ≢ i)) → P i
    by (inl is) = subst P is.1 here
    by (inr other) = below i (omega (arith, within, other.1))

pub loop-at-preserved : goal.loop-at-preserved
loop-at-preserved c = one_more (λ i. fits_row c.args.word c.args.roles.now (slice_get c.args.roles.now i) (slice_get c.args.rows.now i) ≡ true) c.loop-at.at c.loop-at.invariant (sym c.fits_at.ensures ∙ c.if-not-fits_at.false)

everywhere : (P : ℕ → Type 0) (n at : ℕ) → n ≤ at → ((i : ℕ) → i < at → P i) → ((i : ℕ) → n ≤ i → P i) → (i : ℕ) → P i
everywhere P n at reaches below beyond i = by (leb_tells n i)
  where
    by : ((leb n i ≡ true) × (n ≤ i)) ⊎ ((leb n i ≡ false) × (i < n)) → P i
    by (inl past) = beyond i past.1
    by (inr within) = below i (omega (arith, within.1, reaches))

pub returns : goal.returns
returns c = λ _. everywhere (λ i. fits_row c.args.word c.args.roles.now (slice_get c.args.roles.now i) (slice_get c.args.rows.now i) ≡ true) _ c.loop-at.at c.loop-at-test.false c.loop-at.invariant
    (λ i past. fits_beyond c.args.word c.args.roles.now c.args.rows.now i c.if-roles-rows.false past)
