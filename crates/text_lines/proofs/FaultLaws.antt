-- Steps that may fail with a fault of a line.
use Rattle.text_lines.proofs.Names.{arith, nat_tests, eqb-true, eqb-false, ◌≡◌, Result, Ok, LineFault, ◌>>=◌}

abbrev ok_of : {A : Type 0} → A → Result A LineFault
ok_of x = Ok x

pub ok_is : {A : Type 0} (x y : A) → ok_of x ≡ ok_of y → x ≡ y
ok_is x y e = cc

pub bind_ok : {A B : Type 0} (r : Result A LineFault) (f : A → Result B LineFault) (y : B) → (r >>= f) ≡ Ok y → (x : A) × (r ≡ Ok x) × (f x ≡ Ok y)
bind_ok r f y h1 = grind (arith, nat_tests, eqb-true, eqb-false)
