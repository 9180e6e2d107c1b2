-- What is known of one step.
use Rattle.running_model.proofs.Names.{◌≡◌, ℕ, List, Option, Some, true, MatchBool, Word, Call, Act, Intent, HoldKind, Sights, View, carried_out, value_told, view_of, wrote, seen_instead, ◌≢◌, ◌==◌, Bool, false, subst, sym, some_same, eqb_same, eqb-true, eqb-false, ne_eqb, Model, Slot, Parties, Coming, ComesBy, MayStep, act_at, Told, nat_tests, arith}
use Rattle.running_model.specs.Sees.{sights_after}

-- A step that the table has, by what it is to do.
module _ {V P : Type 0} (m : Model V P) (names : List Word) (coming : Coming V) (i : ℕ) (intent : Word → Intent V) (p : Parties V) (may : MayStep m names coming i intent p) (name : Word) (named : name ≡ may.name) (found : ℕ) where
  -- what its act makes of what its pass saw and counts
  pub told_so : {C : Type 0} (sees : Act V → Sights → Sights) (after : Act V → Call V → C → C) (v w : View C) → Told m sees after coming p found v w →
      w ≡ view_of v.part (sees (carried_out (intent name) (λ _. found)) v.sights) (after (carried_out (intent name) (λ _. found)) may.call v.tally)
  told_so sees after v w h1 = grind (arith, nat_tests, eqb-true, eqb-false)

  -- what it found is what the word held
  pub found_there : ((w : Word) (memory : Word → ℕ) → value_told (carried_out (intent w) memory) ≡ Some (memory w)) → (memory : Word → ℕ) →
      ((call : Call V) (place : P) (hold : Option HoldKind) (done : List (Slot V)) → ComesBy m coming call place hold done p → act_at m place hold found ≡ carried_out (m.table.intent place hold) memory) → found ≡ memory name
  found_there h1 memory h2 = grind (arith, nat_tests, eqb-true, eqb-false, some_same)

-- of an exchange, where it is done and where it failed
module _ {V P C : Type 0} (m : Model V P) (names : List Word) (coming : Coming V) (i from to : ℕ) (p : Parties V) (may : MayStep m names coming i (λ w. Intent.Exchange w from to) p) (name : Word) (named : name ≡ may.name)
    (found : ℕ) (after : Act V → Call V → C → C) (v w : View C) (told : Told m sights_after after coming p found v w) where
  made : (b : Bool) → (found == from) ≡ b → w ≡ view_of v.part (sights_after {V = V} (Act.Exchange name from to found b) v.sights) (after (Act.Exchange name from to found b) may.call v.tally)
  made b h1 = grind (arith, nat_tests, eqb-true, eqb-false)

  pub done_so : found ≡ from → w ≡ wrote v (after (Act.Exchange name from to found true) may.call v.tally)
  done_so hit = made true (subst (λ n. (n == from) ≡ true) (sym hit) (eqb_same from))

  pub missed_so : found ≢ from → w ≡ view_of v.part (seen_instead v.sights from found) (after (Act.Exchange name from to found false) may.call v.tally)
  missed_so miss = made false (ne_eqb found from miss)

-- it found 0, or not
pub by_zero : (n : ℕ) (A B : Type 0) → (n ≡ 0 → A) → (n ≢ 0 → B) → MatchBool (n == 0) A B
by_zero n A B h1 h2 = grind (arith, nat_tests, eqb-true, eqb-false)

pub zero_or_not : (n : ℕ) → MatchBool (n == 0) (n ≡ 0) (n ≢ 0)
zero_or_not n = by_zero n (n ≡ 0) (n ≢ 0) (λ free. free) (λ other. other)
