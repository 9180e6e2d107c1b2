-- What reads and writes in a row do to known bytes.
use Rattle.sync_play.proofs.Names.{nat_tests, eqb-true, eqb-false, ◌≡◌, ℕ, zero, suc, ◌+◌, List, [], ◌∷◌, ◌++◌, take, drop, Option, refl, sym, ap, subst, ◌∙◌, append_assoc, arith, Appends}
use Rattle.std.proofs.Math.Seq.{take-add, drop-nil}

pub writes_both : (a b c : Option (List ℕ)) (xs ys : List ℕ) → Appends a b xs → Appends b c ys → Appends a c (xs ++ ys)
writes_both a b c xs ys h1 h2 = grind (arith, nat_tests, eqb-true, eqb-false, append_assoc)

-- the bytes in front of the rest were written
pub record HasWritten (old new : Option (List ℕ)) (bytes rest : List ℕ) : Type 0 where
  pub count : ℕ
  pub rest_is : rest ≡ drop count bytes
  pub wrote : Appends old new (take count bytes)

take_both : (n m : ℕ) (xs : List ℕ) → take n xs ++ take m (drop n xs) ≡ take (n + m) xs
take_both n m xs = sym (take-add n m xs)

drop_both : (n m : ℕ) (xs : List ℕ) → drop m (drop n xs) ≡ drop (n + m) xs
drop_both zero m xs = let e : 0 + m ≡ m = omega arith in rw e refl
drop_both (suc n) m [] = drop-nil m ∙ sym (drop-nil (suc n + m))
drop_both (suc n) m (x ∷ xs) = let e : suc n + m ≡ suc (n + m) = omega arith in rw e (drop_both n m xs)

pub writing_goes_on : (a b c : Option (List ℕ)) (bytes rest rest' : List ℕ) (n : ℕ) → HasWritten a b bytes rest → Appends b c (take n rest) → rest' ≡ drop n rest → HasWritten a c bytes rest'
writing_goes_on a b c bytes rest rest' n h k e =
    record {
      count = h.count + n;
      rest_is = e ∙ ap (drop n) h.rest_is ∙ drop_both h.count n bytes;
      wrote = subst (λ (l : List ℕ). Appends a c l) (take_both h.count n bytes)
          (writes_both a b c (take h.count bytes) (take n (drop h.count bytes)) h.wrote (subst (λ (l : List ℕ). Appends b c (take n l)) h.rest_is k));
    }
