-- What tests say that were made of the same value, or of two.
use Rattle.model_rw_writer.proofs.Names.{eqb-false, eqb-true, nat_tests, ◌≡◌, sym, ◌∙◌, Bool, true, false, cond, ◌||◌, arith}

pub clash : {A : Type 0} (b : Bool) → b ≡ true → b ≡ false → A
clash b is also = let no : true ≡ false = sym is ∙ also in absurd cc

pub neither : (a b x : Bool) → cond (a || b) false x ≡ true → (b ≡ false) × (x ≡ true)
neither a b x h1 = grind (arith, nat_tests, eqb-true, eqb-false)

-- what holds of both ways of a test holds of the test
pub either : {A : Type 0} (Holds : A → Type 0) (b : Bool) (x y : A) → Holds x → Holds y → Holds (cond b x y)
either Holds b x y h1 h2 = grind (arith, nat_tests, eqb-true, eqb-false)
