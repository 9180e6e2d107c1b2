-- What the passes of a lock with one holder at most count, and that the counts follow the run.
use Rattle.std.specs.Prelude.{◌≡◌, ℕ, zero, ◌+◌, ◌≤◌, true, List, length, [], ◌∷◌, Option, Some}
use Rattle.model_events.specs.Past.{holds_of, word_in, word_after, Hold, PendingCall}
use Rattle.model_events.specs.Rows.{carried_out}
use Rattle.model_events.specs.Runs.{IsPast}
use Rattle.model_events.specs.Tables.{Table}
use Rattle.model_events.specs.declared.event.Act.{Act}
use Rattle.model_events.specs.declared.event.Call.{Call}
use Rattle.model_events.specs.declared.event.Event.{Event}
use Rattle.model_events.specs.declared.event.Word.{Word}
use Rattle.model_events.specs.declared.hold.HoldKind.{HoldKind}
use Rattle.model_events.specs.declared.row.Intent.{Intent}
use Rattle.running_model.specs.Models.{Model}
use Rattle.running_model.specs.Passes.{StaysOnNoWord, GoesOnByActs}
use Rattle.running_model.specs.Sums.{grants_in, grants_by, same_grants, next_grants, quiet_holds, pairs_add_up}
use Rattle.running_passes.specs.Tallies.{IsTally}
use Rattle.std.proofs.Common.{refl, ap, sym, subst, ◌∙◌, arith}
use Rattle.std.proofs.lemmas.Bool.{eqb-true, eqb-false}
use Rattle.std.proofs.lemmas.Bool.Decides.{nat_tests}
use Rattle.running_for_one.specs.declared.Holds.{Holds}
use Rattle.model_events.proofs.Locks.{IsLock, IsLockIntent, IsFreeOrHeld, lock_word}

-- What a pass counts, and what all passes count together.

abbrev pub holds : ℕ → ℕ → Holds
holds n grants = record { holds = n; grants = grants }

abbrev pub no_holds : Holds
no_holds = holds 0 0

abbrev pub both_holds : Holds → Holds → Holds
both_holds t u = holds (t.holds + u.holds) (t.grants + u.grants)

-- the hold is turned on, by a grant
abbrev pub granted : Holds → Holds
granted t = holds 1 (t.grants + 1)

-- the hold is turned off
abbrev pub released : Holds → Holds
released t = holds 0 t.grants

-- what an act makes of a tally: an exchange of the lock's word that is done, or a swap that found 0 there, grants, and a store releases
abbrev pub holds_after : Act ℕ → Call ℕ → Holds → Holds
holds_after (Act.Exchange Word.State from to found true) call t = granted t
holds_after (Act.Swap Word.State zero put) call t = granted t
holds_after (Act.Store Word.State put) call t = released t
holds_after act call t = t

-- and what it needs of it: only a hold that is on is released
abbrev pub holds_needed : Act ℕ → Holds → Type 0
holds_needed (Act.Store word put) t = t.holds ≡ 1
holds_needed act t = Unit {0}

-- so often was a call granted in the run
abbrev pub AreGrantsIn : {V P : Type 0} → Table V P → List (Event V) → Holds → Type 0
AreGrantsIn t past counts = counts.grants ≡ grants_in t HoldKind.Write past

-- and so many holds stand after it, of which there is one at most
pub record AreHoldsIn {P : Type 0} (t : Table ℕ P) (past : List (Event ℕ)) (counts : Holds) : Type 0 where
  pub holds : counts.holds ≡ length (holds_of t past)
  pub one : counts.holds ≤ 1
  pub grants : AreGrantsIn t past counts

-- What the passes count adds up, and follows the run.

pub holds_add_up : IsTally no_holds both_holds (λ _. no_holds)
holds_add_up = pairs_add_up holds (λ t. t.holds) (λ t. t.grants) (λ n m. refl) (λ n m. refl) (λ t. refl)

pub no_holds_first : {P : Type 0} (t : Table ℕ P) → AreHoldsIn t [] no_holds
no_holds_first t = record { holds = refl; one = omega arith; grants = refl }

pub holds_stay : {P : Type 0} (t : Table ℕ P) → StaysOnNoWord (AreHoldsIn t)
holds_stay t = grind (arith, nat_tests, eqb-true, eqb-false, quiet_holds, same_grants)

-- the word is how many holds stand, of which there is one at most
held_so : (w : ℕ) (hs : List Hold) → IsFreeOrHeld w hs → (w ≡ length hs) × (w ≤ 1)
held_so w hs h1 = grind (arith, nat_tests, eqb-true, eqb-false)

-- Each step makes of the word what it makes of the holds, and counts its grant.
abbrev CountsMore : {P : Type 0} → Table ℕ P → PendingCall ℕ → Act ℕ → Call ℕ → ℕ → Holds → Holds → Type 0
CountsMore t c act call word counts rest =
    ((holds_after act call counts).holds + rest.holds ≡ word_after Word.State act word) × ((holds_after act call counts).grants ≡ grants_by t HoldKind.Write act (Some c) + counts.grants)

-- The model of a lock with one holder at most.
abbrev pub IsForOne : {P : Type 0} → Model ℕ P → Type 0
IsForOne m = (parties : ℕ) → IsLock m.arithmetic m.table parties

module _ {P : Type 0} (m : Model ℕ P) (lock : IsForOne m) where
  pub word_is_held : (parties : ℕ) (past : List (Event ℕ)) → IsPast m.arithmetic m.table parties past → (word_in m.table past Word.State ≡ length (holds_of m.table past)) × (word_in m.table past Word.State ≤ 1)
  word_is_held parties past run = held_so _ _ (lock_word m.arithmetic m.table parties (lock parties) past run)

  pub holds_go_on : GoesOnByActs m both_holds (AreHoldsIn m.table) (λ _ _. holds_after) holds_needed
  holds_go_on call place hold past e found step counts rest has is =
      let act = step.act ∙ step.found_is in
      let memory = word_in m.table past in
      let before = word_is_held step.parties past step.run.1 in
      let after = word_is_held step.parties (e ∷ past) step.run in
      let intends = subst (λ h. IsLockIntent (m.table.grant step.pending.call 0 1) h (m.table.intent place h)) step.has ((lock step.parties).steps past e.party step.pending place step.run.1 step.under_way step.stage) in
      let more = subst (λ (a : Act ℕ). CountsMore m.table step.pending a call (memory Word.State) counts rest) (sym act)
      (counts_more m.table step.pending hold call memory counts rest (m.table.intent place hold) intends before.1 (is.holds ∙ sym before.0) (subst (λ (a : Act ℕ). holds_needed a counts) act has)) in
      record {
        holds = more.0 ∙ after.0;
        one = subst (λ n. n ≤ 1) (sym more.0) after.1;
        grants = next_grants m.table HoldKind.Write past e counts.grants (holds_after e.act call counts).grants rest.grants (more.1 ∙ ap (λ (k : Option (PendingCall ℕ)). grants_by m.table HoldKind.Write e.act k + counts.grants) (sym step.under_way)) is.grants;
      }
    where
      counts_more : {P : Type 0} (t : Table ℕ P) (c : PendingCall ℕ) (had : Option HoldKind) (call : Call ℕ) (memory : Word → ℕ) (counts rest : Holds) (intent : Intent ℕ) → IsLockIntent (t.grant c.call 0 1) had intent → memory Word.State ≤ 1 →
          counts.holds + rest.holds ≡ memory Word.State → holds_needed (carried_out intent memory) counts → CountsMore t c (carried_out intent memory) call (memory Word.State) counts rest
      counts_more t c had call memory counts rest intent h1 h2 h3 h4 = grind (arith, nat_tests, eqb-true, eqb-false)
