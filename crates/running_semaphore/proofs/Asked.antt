-- What a wait asked its closure, told of the whole call.
use Rattle.std.specs.Borrow.{Bor}
use Rattle.std.specs.Fn.{Mut}
use Rattle.std.specs.List.{FoldsTo}
use Rattle.std.proofs.Common.{◌≡◌, ℕ, ◌+◌, Bool, List, [], ◌∷◌, refl, subst, arith, inl, inr}
use Rattle.model_events.specs.declared.WaitAction.{WaitAction}
use Rattle.running_model.specs.Asked.{AskedOnce, AskedAfter}
use Rattle.running_model.proofs.Questions.{alike}
use denote.Param.Always.{always_mut, mut_next}

later : (s k l m n : ℕ) → m ≡ l + k → s ≡ m + n → s ≡ l + (k + n)
later s k l m n h1 h2 = omega (arith, h1, h2)

module _ {F X : Type 0} (g : Mut F (Bor X × (Bor ℕ × Unit {0})) WaitAction) (shown : X) (refuses : ℕ → Type 0) where
  -- so many looks were made before
  pub asked_later : (k looks : ℕ) (f after : F) (granted : Bool) (once twice : Type 0) (first before now : ℕ) → (twice → once) → (twice → before ≡ first + k) → AskedAfter g shown refuses looks f after granted once before now → AskedAfter g shown refuses (k + looks) f after granted twice first now
  asked_later k looks f after granted once twice first before now by saw (inl none) = inl none
  asked_later k looks f after granted once twice first before now by saw (inr r) = inr (r.0, r.1, r.2, λ o. later r.1 k first before looks (saw o) (r.3 (by o)), alike g shown refuses r.0 f after granted once twice by r.4)

  still : (xs : List (ℕ × WaitAction)) (f after : F) → FoldsTo {P = F} {A = ℕ × WaitAction} (λ p x q. AskedOnce g shown p x.0 x.1 q) f xs after → always_mut g f → always_mut g after
  still [] f after led may = subst (always_mut g) led may
  still (x ∷ xs) f after led may = still xs led.0 after led.2 (mut_next g _ _ _ _ _ led.1.called refl may)

  -- the closure may be asked again
  pub may_again : (looks : ℕ) (f after : F) (granted : Bool) (once : Type 0) (before now : ℕ) → AskedAfter g shown refuses looks f after granted once before now → always_mut g f → always_mut g after
  may_again looks f after granted once before now (inl none) may = subst (always_mut g) none.1 may
  may_again looks f after granted once before now (inr r) may = still r.4.asked f after r.4.led may
