-- A word that opens with 0, and calls that begin in the roles of their rows.
use Rattle.std.proofs.Common.{◌≡◌, ℕ, zero, suc, true, List, [], ◌∷◌, Some, subst, arith}
use Rattle.std.specs.Prelude.{slice_get, get_or}
use Rattle.text_own.specs.Names.{Word, Role, Row}
use Rattle.model_own.specs.OneHolder.{EntriesFit, Fit, IsOwnLock}
use Rattle.text_own.specs.Judge.{opening_in, entries_of, fits_calls}
use Rattle.text_own.specs.Row.{word_at}
use Rattle.text_own.specs.declared.table.Calls.{Calls}

there : (xs : List ℕ) (i x d : ℕ) → slice_get xs i ≡ Some x → get_or xs i d ≡ x
there [] i x d is = absurd cc
there (y ∷ xs) zero x d is = grind (arith)
there (y ∷ xs) (suc i) x d is = there xs i x d is

opens : (at : ℕ) (word : Word) (opening : List ℕ) → word_at at ≡ Some word → slice_get opening at ≡ Some 0 → opening_in opening word ≡ 0
opens zero word opening is found = let same : Word.State ≡ word = cc in subst (λ w. opening_in opening w ≡ 0) same (there opening 0 0 0 found)
opens (suc zero) word opening is found = let same : Word.Counter ≡ word = cc in subst (λ w. opening_in opening w ≡ 0) same (there opening 1 0 0 found)
opens (suc (suc zero)) word opening is found = let same : Word.Waiters ≡ word = cc in subst (λ w. opening_in opening w ≡ 0) same (there opening 2 0 0 found)
opens (suc (suc (suc zero))) word opening is found = let same : Word.Value ≡ word = cc in subst (λ w. opening_in opening w ≡ 0) same (there opening 3 0 0 found)
opens (suc (suc (suc (suc zero)))) word opening is found = let same : Word.Low ≡ word = cc in subst (λ w. opening_in opening w ≡ 0) same (there opening 4 0 0 found)
opens (suc (suc (suc (suc (suc zero))))) word opening is found = let same : Word.High ≡ word = cc in subst (λ w. opening_in opening w ≡ 0) same (there opening 5 0 0 found)
opens (suc (suc (suc (suc (suc (suc more)))))) word opening is found = absurd cc

begin : (roles : List Role) (calls : Calls) → fits_calls roles calls ≡ true → EntriesFit roles (entries_of calls)
begin roles calls fits call = grind (arith)

pub is_own_lock : (at : ℕ) (word : Word) (opening : List ℕ) (calls : Calls) (roles : List Role) (rows : List Row) → word_at at ≡ Some word → slice_get opening at ≡ Some 0 → Fit word roles rows → fits_calls roles calls ≡ true →
    IsOwnLock word (opening_in opening) (entries_of calls) roles rows
is_own_lock at word opening calls roles rows is found fit fits = record { opens = opens at word opening is found; fit = fit; begin = begin roles calls fits }
