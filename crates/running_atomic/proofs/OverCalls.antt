-- What the steps of a call leave of its pass: what it saw on the way, the hold, and what the hold knows.
use Rattle.running_atomic.proofs.Names.{Answer, Arithmetic, Pass, View, IsSamePass, looked, counted, RegisterAct, ◌≡◌, ◌≢◌, ℕ, ap, AtomicTally, PlayedAtomic, EntersRead, EntersWrite, IsStill, HasTaken, HasActedAt, arith, nat_tests, eqb-true, eqb-false, MatchBool, Call, plain, answer_to, true, None, AtomicAct, IfWriting, IsSettled, ReadsLow, ComparesHigh, HasGot, HasCompared}
use Rattle.model_atomic.specs.Register as register

module _ {T : Type 0} where
  -- the lock was seen taken

  pub still_looked : (p q : Pass (PlayedAtomic T)) (found : ℕ) → IsSamePass p q → counted q ≡ looked (counted p) found → IsStill p q
  still_looked p q found same saw = record { same = same; part = ap (λ (v : View AtomicTally). v.part) saw; tally = ap (λ (v : View AtomicTally). v.tally) saw }

  pub not_writing : (p q : Pass (PlayedAtomic T)) (found : ℕ) → found ≢ 0 → IsSamePass p q → EntersWrite (counted p) found (counted q) → IsStill p q
  not_writing p q found other same tried = let saw = tried.failed other in record { same = same; part = ap (λ (v : View AtomicTally). v.part) saw; tally = ap (λ (v : View AtomicTally). v.tally) saw }

  pub not_reading : (p q : Pass (PlayedAtomic T)) (from found : ℕ) → found ≢ from → IsSamePass p q → EntersRead from (counted p) found (counted q) → IsStill p q
  not_reading p q from found other same tried = let saw = tried.failed other in record { same = same; part = ap (λ (v : View AtomicTally). v.part) saw; tally = ap (λ (v : View AtomicTally). v.tally) saw }

  pub still_on : (p q r : Pass (PlayedAtomic T)) → IsStill p q → IsStill q r → IsStill p r
  still_on p q r h1 h2 = grind (arith, nat_tests, eqb-true, eqb-false)

-- the low word that was read is the one that the hold knows
pub low_read : (v w : View AtomicTally) (low : ℕ) → IsSettled v.tally.hold → ReadsLow v low w → IfWriting w.tally.hold (λ x found. low ≡ x.low)
low_read v w low h1 h2 = grind (arith, nat_tests, eqb-true, eqb-false)

pub taken_later : {T : Type 0} (z : Arithmetic T) (value : T) (p q r : Pass (PlayedAtomic T)) → HasGot IsSettled p q → HasTaken z value q r → HasTaken z value p r
taken_later z value p q r h1 h2 = grind (arith, nat_tests, eqb-true, eqb-false)

module _ {T : Type 0} (z : Arithmetic T) (k : T) where
  -- A call that took the lock and the value has acted so, however act and answer are written.
  pub acts_after : (a b : RegisterAct T) (given answer : Answer T) (old : T) (p q r : Pass (PlayedAtomic T)) → HasTaken z old p q → HasActedAt z k a given q r → a ≡ b → given ≡ answer → HasActedAt z k b answer p r
  acts_after a b given answer old p q r h1 h2 h3 h4 = grind (arith, nat_tests, eqb-true, eqb-false)

  -- a call that compares has taken the lock and the value, or has acted
  pub compared : (a : AtomicAct) (current value : T) (low high : ℕ) (p q r s : Pass (PlayedAtomic T)) → HasGot IsSettled p q → IsSamePass q r → ReadsLow (counted q) low (counted r) → IsSamePass r s →
      ComparesHigh z k a current (counted r) high (counted s) → value ≡ z.of_words low high → MatchBool (z.same value current) (HasTaken z value p s) (HasCompared z k a value p s)
  compared a current value low high p q r s h1 h2 h3 h4 h5 h6 = grind (arith, nat_tests, eqb-true, eqb-false)

  -- what it answers where its value is the one compared with
  module _ (call : Call T) (current old new : T) (acts : register.act_of z call None old ≡ register.compared (z.same old current) old new) where
    pub answers_same : z.same old current ≡ true → answer_to z (plain call) old ≡ Answer.OkOld old
    answers_same h1 = grind (arith, nat_tests, eqb-true, eqb-false)
