-- What a step makes of what a pass saw and counts, and what the run says of it.
use Rattle.running_rw_reader.proofs.Names.{Word, Intent, rw_reader_table, rw_reader_model, Coming, MayStep, IsWhole, IsSamePass, view, part_of, parties_of, counts_of, counted, none_played, both_played, core_played, played_add_up, IsShare, Told, Free, Locks, same_nothing, tells_same_nothing, held_adds_up, Holds, no_holds, both_holds, read, written, held_after, AreHoldsIn, ◌≡◌, ◌≢◌, ℕ, ◌+◌, ◌-◌, ◌^◌, ◌<◌, [], ◌∷◌, Some, get_or, refl, sym, ap, subst, arith, ne_eqb, comes_in, goes_out, takes_over, parts, only_writes, RwReaderPass, reads_of, writes_of, HasLeftReading, HasLeftWriting, nat_tests, eqb-true, eqb-false}
use mathlib.Core.Logic.{dite}
use native.Mathlib.Decide.{ℕ_discrete}
use Rattle.model_events.specs.Past.{holds_of, word_in}
use Rattle.model_events.specs.Rows.{carried_out, value_told}
use Rattle.model_rw_reader.specs.Law.{CountsHolds}
use Rattle.running_passes.proofs.Sums.{sum_of_two}
use Rattle.running_model.specs.Counts.{HasSeen, HasMissed, HasDone}
use Rattle.running_model.specs.Sees.{sights_after}
use Rattle.running_model.proofs.OfARun.{of_a_run}
use Rattle.running_model.proofs.Steps.{told_so, found_there, done_so, missed_so}
use Rattle.running_model.proofs.Words.{hold_at}
use Rattle.running_rw_hold.specs.RwReader.{locks}
use Rattle.running_rw_reader.specs.RwReaderSteps.{HoldsAreOfARun, NoHoldBesideAWriteHold, word_of}

-- with what the others count
abbrev pub Share : Coming ℕ → ℕ → RwReaderPass → Type 0
Share way found p = IsShare rw_reader_model both_holds (AreHoldsIn rw_reader_table) way (view p) found

abbrev pub ToldOf : Coming ℕ → ℕ → RwReaderPass → RwReaderPass → Type 0
ToldOf way found p q = Told rw_reader_model sights_after held_after way (parties_of p) found (counted p) (counted q)

module _ (way : Coming ℕ) (intent : Word → Intent ℕ) (found : ℕ) (p : RwReaderPass) (may : MayStep rw_reader_model (Word.State ∷ []) way 0 intent (parties_of p)) where
  -- the word is what all holds come to
  beside : Share way found p → (rest : Holds) × (w : ℕ) × Locks w tt (both_holds (counts_of p) rest)
  beside s = (s.rest, word_in rw_reader_table s.past Word.State, locks _ (holds_of rw_reader_table s.past) (both_holds (counts_of p) s.rest) s.law.law.counts s.says.reads s.says.writes)

  module _ (tells : (w : Word) (memory : Word → ℕ) → value_told (carried_out (intent w) memory) ≡ Some (memory w)) where
    -- and so is what was found
    found_beside : Share way found p → (rest : Holds) × Locks found tt (both_holds (counts_of p) rest)
    found_beside s = (
      s.rest,
      locks found (holds_of rw_reader_table s.past) (both_holds (counts_of p) s.rest)
          (subst (λ n. CountsHolds n (holds_of rw_reader_table s.past)) (sym (found_there _ _ _ _ intent (parties_of p) may Word.State may.named found tells (word_in rw_reader_table s.past) s.found_is)) s.law.law.counts) s.says.reads s.says.writes,
    )

    found_alone : Share way found p → IsWhole (part_of p) → found ≡ word_of (counts_of p)
    found_alone h1 h2 = grind (arith, nat_tests, eqb-true, eqb-false, found_there, locks)

pub looks_alone : (way : Coming ℕ) (found : ℕ) (p : RwReaderPass) → MayStep rw_reader_model (Word.State ∷ []) way 0 (λ k. Intent.Load k) (parties_of p) → Share way found p → IsWhole (part_of p) → found ≡ word_of (counts_of p)
looks_alone way found p may = found_alone way (λ k. Intent.Load k) found p may (λ w memory. refl)

pub loads : (way : Coming ℕ) (found : ℕ) (p q : RwReaderPass) → MayStep rw_reader_model (Word.State ∷ []) way 0 (λ k. Intent.Load k) (parties_of p) → IsSamePass p q → ToldOf way found p q → HasSeen found p q
loads way found p q may same told = (same, told_so _ _ _ _ (λ k. Intent.Load k) (parties_of p) may Word.State may.named found sights_after held_after (counted p) (counted q) told)

-- An exchange of a value for another.
module _ (way : Coming ℕ) (from to found : ℕ) (p q : RwReaderPass) (may : MayStep rw_reader_model (Word.State ∷ []) way 0 (λ k. Intent.Exchange k from to) (parties_of p)) where
  pub misses : IsSamePass p q → ToldOf way found p q → found ≢ from → HasMissed from found p q
  misses same told miss = (same, missed_so _ _ _ _ from to (parties_of p) may Word.State may.named found held_after (counted p) (counted q) told miss)

  pub exchanges_alone : Share way found p → IsWhole (part_of p) → found ≡ word_of (counts_of p)
  exchanges_alone = found_alone way (λ k. Intent.Exchange k from to) found p may (λ w memory. refl)

  -- for one more: it turned a read hold on, where no write hold stood
  pub reads_on : to ≡ from + 1 → from < 2 ^ 64 - 2 → IsSamePass p q → ToldOf way found p q → found ≡ from → HasDone read p q
  reads_on h1 h2 h3 h4 h5 = grind (arith, nat_tests, eqb-true, eqb-false, done_so, ne_eqb)

  pub one_more : to ≡ from + 1 → from < 2 ^ 64 - 2 → Share way found p → HasDone read p q → found ≡ from → (reads_of q ≡ reads_of p + 1) × ((writes_of p ≡ 0) × (writes_of q ≡ 0))
  one_more h1 h2 h3 h4 h5 = grind (arith, nat_tests, eqb-true, eqb-false, comes_in, found_beside, tells_same_nothing)

  -- of 0 for 2 ^ 64 - 1: it turned the write hold on, where the pass had no hold
  pub writes_on : to ≡ 2 ^ 64 - 1 → IsSamePass p q → ToldOf way found p q → found ≡ from → HasDone (λ _. written) p q
  writes_on h1 h2 h3 h4 = grind (arith, nat_tests, eqb-true, eqb-false, done_so)

  pub was_free : Share way found p → found ≡ 0 → counts_of p ≡ no_holds
  was_free share free = let all = found_beside way (λ k. Intent.Exchange k from to) found p may (λ w memory. refl) share in (takes_over same_nothing tells_same_nothing tt found (counts_of p) all.0 all.1 free).off

-- a subtraction of 1, by a pass with a read hold
pub readers_out : (way : Coming ℕ) (found : ℕ) (p q : RwReaderPass) → MayStep rw_reader_model (Word.State ∷ []) way 0 (λ k. Intent.Subtract k 1) (parties_of p) → IsSamePass p q → Share way found p → ToldOf way found p q → 0 < reads_of p → HasLeftReading p q
readers_out way found p q h1 h2 h3 h4 h5 = grind (arith, nat_tests, eqb-true, eqb-false, beside, goes_out, tells_same_nothing, told_so)

-- a store of 0, by the pass with the write hold
pub writers_out : (way : Coming ℕ) (p q : RwReaderPass) → MayStep rw_reader_model (Word.State ∷ []) way 0 (λ k. Intent.Store k 0) (parties_of p) → IsSamePass p q → Share way 0 p → ToldOf way 0 p q → writes_of p ≡ 1 → HasLeftWriting p q
writers_out way p q h1 h2 h3 h4 h5 = grind (arith, nat_tests, eqb-true, eqb-false, beside, only_writes, parts, tells_same_nothing, told_so)

-- Whenever the rule holds.

pub holds_are_of_a_run : HoldsAreOfARun
holds_are_of_a_run = grind (arith, nat_tests, eqb-true, eqb-false, hold_at, locks, of_a_run)

-- beside a write hold the others have none
pub none_beside : NoHoldBesideAWriteHold
none_beside s r i j v w here there writes some = dite (ℕ_discrete i j) (λ same. same)
    (λ apart.
    let two = sum_of_two (none_played no_holds) (both_played both_holds) (core_played (λ _. Free)) (played_add_up no_holds both_holds (λ _. Free) (held_adds_up same_nothing tells_same_nothing)) s.views i j v w here there apart in
    let rest : Holds = two.0.counts in
    let all : Locks (get_or s.words 0 0) tt (both_holds v.tally.counts (both_holds w.tally.counts rest)) = subst (λ t. Locks (get_or s.words 0 0) tt t) (ap (λ t. t.counts) two.1) (holds_are_of_a_run s r).locks in
    let mine = parts same_nothing tells_same_nothing tt v.tally.counts (both_holds w.tally.counts rest) all.knows in
    let others : Locks 0 tt (both_holds w.tally.counts rest) = subst (λ t. Locks 0 tt t) (sym (mine.alone writes)) (record { word_is = omega arith; room = omega arith; knows = tt }) in
    let theirs = parts same_nothing tells_same_nothing tt w.tally.counts rest others.knows in
    absurd (omega (arith, others.word_is, theirs.reads, theirs.writes, some)))
