-- One question, and one more before others; and that what a closure round the caller's was asked, the caller's was asked.
use Rattle.std.specs.Prelude.{◌≡◌, ℕ, ◌+◌, ◌≤◌, suc, Bool, false, length, List, [], ◌∷◌}
use Rattle.std.specs.Borrow.{Bor, GName}
use Rattle.std.specs.Fn.{Mut, Shared, Called, CalledAt, FnReturns, FnReturnsAt}
use Rattle.std.specs.List.{FoldsTo}
use Rattle.running_passes.specs.Answers.{MayAnswer, MayAnswerAbort, MayAnswerContinue}
use Rattle.running_model.proofs.Names.{WaitAction, Pass, sights_of, HasAsked, refl, sym, subst, arith, ◌∙◌, true≢false, inl, inr}
use Rattle.running_model.specs.Turns.{pass_in}
use Rattle.running_model.specs.declared.turn.Answered.{Answered}
use Rattle.running_model.specs.Asked.{AskedOnce, Asks, Asked, AskedAfter, EndsInAbort}

counts : (k l m n : ℕ) → m ≡ l + 1 → n ≡ m + k → n ≡ l + suc k
counts k l m n h1 h2 = omega (arith, h1, h2)

in_all : (a b c k l : ℕ) → b ≡ a + k → c ≡ b + l → c ≡ a + k + l
in_all a b c k l h1 h2 = omega (arith, h1, h2)

one_at_least : {T : Type 0} (x : T) (xs : List T) → 1 ≤ length (x ∷ xs)
one_at_least x xs = omega arith

two_not_one : {T : Type 0} (x : T) → 2 ≤ length (x ∷ []) → ⊥
two_not_one x h = omega (arith, h)

module _ {F X : Type 0} (g : Mut F (Bor X × (Bor ℕ × Unit {0})) WaitAction) (shown : X) (refuses : ℕ → Type 0) where
  asks_more : (v w : ℕ) (action : WaitAction) (xs : List (ℕ × WaitAction)) → action ≡ WaitAction.Continue → refuses w → Asks g shown refuses w xs → Asks g shown refuses v ((v, action) ∷ xs)
  asks_more v w action [] went bars h = absurd h
  asks_more v w action (x ∷ []) went bars h = (refl, went, subst refuses (sym h) bars, refl)
  asks_more v w action (x ∷ y ∷ xs) went bars h = (refl, went, subst refuses (sym h.0) bars, (refl, h.1, h.2, h.3))

  ends_more : (x : ℕ × WaitAction) (xs : List (ℕ × WaitAction)) → EndsInAbort xs → EndsInAbort (x ∷ xs)
  ends_more x [] h = absurd h
  ends_more x (y ∷ ys) h = h

  pub one : (v : ℕ) (action : WaitAction) (f q : F) (granted : Bool) (once : Type 0) (m n : ℕ) → (granted ≡ false → action ≡ WaitAction.Abort) → (granted ≡ false → once → n ≡ m + 1) → AskedOnce g shown f v action q → Asked g shown refuses v f q granted once m n
  one v action f q granted once m n ends looks s = record { asked = (v, action) ∷ []; asks = refl; ends = ends; looks = looks; led = (q, s, refl) }

  pub more : (v w : ℕ) (action : WaitAction) (f j q : F) (granted : Bool) (once : Type 0) (l m n : ℕ) → action ≡ WaitAction.Continue → refuses w → (once → m ≡ l + 1) → AskedOnce g shown f v action j → Asked g shown refuses w j q granted once m n → Asked g shown refuses v f q granted once l n
  more v w action f j q granted once l m n went bars looks s r = record {
    asked = (v, action) ∷ r.asked;
    asks = asks_more v w action r.asked went bars r.asks;
    ends = λ e. ends_more (v, action) r.asked (r.ends e);
    looks = λ e o. counts (length r.asked) l m n (looks o) (r.looks e o);
    led = (j, s, r.led);
  }

  -- what looks once for each question by a stronger reason, does so
  pub alike : (v : ℕ) (f q : F) (granted : Bool) (once twice : Type 0) {m n : ℕ} → (twice → once) → Asked g shown refuses v f q granted once m n → Asked g shown refuses v f q granted twice m n
  alike v f q granted once twice by r = record { asked = r.asked; asks = r.asks; ends = r.ends; looks = λ e o. r.looks e (by o); led = r.led }

  -- A closure whose calls each call the caller's, which they leave as it is.
  module _ {G : Type 0} (h : Shared G (Bor X × (Bor ℕ × Unit {0})) WaitAction) (wait : G)
      (Good : F → Type 0) (leads : (f : F) (a : Bor X × (Bor ℕ × Unit {0})) (r : WaitAction) (after : F) → Good f → Called g f a r after → Good after × FnReturns h wait a r) where
    answer_of : (f : F) (v : ℕ) (action says : WaitAction) (after : F) → Good f → refuses v → action ≡ says → AskedOnce g shown f v action after → MayAnswer h wait refuses says
    answer_of f v action says after good bars is s = record { word = s.word; seen = s.seen; named = subst refuses (sym s.tells) bars; says = subst (λ a. FnReturns h wait (s.word, (s.seen, tt)) a) is (leads _ _ _ _ good s.called).1 }

    pub ends_abort : (xs : List (ℕ × WaitAction)) (v : ℕ) (f q : F) → Asks g shown refuses v xs → refuses v → EndsInAbort xs → FoldsTo {P = F} {A = ℕ × WaitAction} (λ p x j. AskedOnce g shown p x.0 x.1 j) f xs q → Good f → MayAnswerAbort h wait refuses
    ends_abort [] v f q asks bars ends led good = absurd ends
    ends_abort (x ∷ []) v f q asks bars ends led good = answer_of f x.0 x.1 _ led.0 good (subst refuses (sym asks) bars) ends led.1
    ends_abort (x ∷ y ∷ xs) v f q asks bars ends led good = ends_abort (y ∷ xs) y.0 led.0 q asks.3 asks.2 ends led.2 (leads _ _ _ _ good led.1.called).0

    pub first_goes_on : (xs : List (ℕ × WaitAction)) (v : ℕ) (f q : F) → Asks g shown refuses v xs → refuses v → FoldsTo {P = F} {A = ℕ × WaitAction} (λ p x j. AskedOnce g shown p x.0 x.1 j) f xs q → Good f → 2 ≤ length xs → MayAnswerContinue h wait refuses
    first_goes_on [] v f q asks bars led good often = absurd asks
    first_goes_on (x ∷ []) v f q asks bars led good often = absurd (two_not_one x often)
    first_goes_on (x ∷ y ∷ xs) v f q asks bars led good often = answer_of f x.0 x.1 _ led.0 good (subst refuses (sym asks.0) bars) asks.1 led.1

    pub some_asked : (xs : List (ℕ × WaitAction)) (v : ℕ) → Asks g shown refuses v xs → 1 ≤ length xs
    some_asked [] v asks = absurd asks
    some_asked (x ∷ xs) v asks = one_at_least x xs

    pub aborted_by : (looks : ℕ) (f after : F) (granted : Bool) (once : Type 0) (m n : ℕ) → AskedAfter g shown refuses looks f after granted once m n → Good f → granted ≡ false → MayAnswerAbort h wait refuses
    aborted_by looks f after granted once m n (inl none) good e = absurd (true≢false (sym none.0 ∙ e))
    aborted_by looks f after granted once m n (inr r) good e = let a = r.4 in ends_abort a.asked r.0 f after a.asks r.2 (a.ends e) a.led good

    pub asked_by : {T : Type 0} (looks : ℕ) (f after : F) (granted : Bool) (once : Type 0) (p q : Pass T) → AskedAfter g shown refuses looks f after granted once (sights_of p).count (sights_of q).count → Good f → granted ≡ false → once → HasAsked h wait refuses looks p q
    asked_by looks f after granted once p q (inl none) good e o = absurd (true≢false (sym none.0 ∙ e))
    asked_by looks f after granted once p q (inr r) good e o = let a = r.4 in record {
      more = length a.asked;
      looked = in_all (sights_of p).count r.1 (sights_of q).count looks (length a.asked) (r.3 o) (a.looks e o);
      some = some_asked a.asked r.0 a.asks;
      again = first_goes_on a.asked r.0 f after a.asks r.2 a.led good;
    }

-- what was answered so
pub answers_so : {F X R : Type 0} (g : Mut F (Bor X × (Bor ℕ × Unit {0})) R) (shown : X) (f after : F) (told : ℕ) (a b : R) → a ≡ b → AskedOnce g shown f told a after → AskedOnce g shown f told b after
answers_so g shown f after told a b e h = subst (λ x. AskedOnce g shown f told x after) e h

-- A wake whose closure is a reference to the caller's, or calls it, is one that the caller's promises.
pub says_of : {F G X : Type 0} (g : Mut F (Bor X × Unit {0}) (Unit {0})) (h : Shared G (Bor X × Unit {0}) (Unit {0})) (wake : G) (f after : F) (word : X)
    → ((a : Bor X × Unit {0}) → Called g f a tt after → h.post wake a tt) → CalledAt g f word tt after → FnReturnsAt h wake word tt
says_of g h wake f after word gives s = record { shown = s.shown; shows = s.shows; says = record { met = gives _ s.called } }

module _ {T : Type 0} where
  pub still_of : (a b : Answered T) (p : T) → a ≡ b → (pass_in a).now ≡ p → (pass_in b).now ≡ p
  still_of a b p e h = subst (λ x. (pass_in x).now ≡ p) e h

  pub same_of : (a b : Answered T) (n : GName) → a ≡ b → (pass_in a).ghost_name ≡ n → (pass_in b).ghost_name ≡ n
  same_of a b n e h = subst (λ x. (pass_in x).ghost_name ≡ n) e h
