-- What a step makes of what a pass saw and counts, and what the run says of it.
use Rattle.running_rw_writer.proofs.Names.{dite, ℕ_discrete, Word, Call, Intent, RwWriterPlace, Coming, View, Pass, Each, IsSamePass, view, part_of, sights_of, parties_of, counts_of, counted, view_of, looked, missed, wrote, sum_of, none_played, both_played, core_played, played_add_up, PlaysAndCounts, IsShare, Told, HasSeen, MarkedHolds, read_holds, write_holds, Knows, same_nothing, tells_same_nothing, Holds, no_holds, both_holds, nothing_marked, both_marked, read, no_more_read, written, no_more_written, flagged, marked_sees, marked_after, AreMarkedIn, IsMarkedOrHeld, rw_writer_model, ◌≡◌, ◌≢◌, ℕ, ◌+◌, ◌-◌, ◌^◌, ◌<◌, ◌==◌, Some, None, List, [], ◌∷◌, inl, inr, get_or, refl, sym, ap, ◌∙◌, subst, arith, eqb-true, eqb-false, nat_tests, carried_out, value_told, MayLook, TableHas, IsOpen, EntersToRead, HasLeftReading, HasLeftWriting, reads_of, writes_of, PlayedRwWriter, all_in, GrantsAreOfARun, NoHoldBesideTheWriter, NoMarkWithoutAFlag, IsMarked, word_of, SaysAlone, Missed, WriterIn}
use mathlib.Core.Option as maybe
use Rattle.model_events.specs.declared.event.Act.{Act}
use Rattle.model_events.specs.Past.{word_in}
use Rattle.running_passes.specs.Objects.{HasClosed}
use Rattle.running_passes.proofs.Sums.{sum_of_two}
use Rattle.running_model.proofs.OfARun.{of_a_run}
use Rattle.running_model.proofs.Steps.{told_so, found_there}
use Rattle.running_model.proofs.Words.{hold_at}
use Rattle.running_rw_hold.specs.HeldKeeps.{parts}
use Rattle.running_rw_writer.specs.RwWriter.{marked_add_up, held_in}
use Rattle.model_rw_writer.specs.Table.{rw_writer_table}

-- with what the others count
abbrev pub Share : Coming ℕ → ℕ → Pass PlayedRwWriter → Type 0
Share way found p = IsShare rw_writer_model both_marked AreMarkedIn way (view p) found

abbrev pub ToldOf : Coming ℕ → ℕ → Pass PlayedRwWriter → Pass PlayedRwWriter → Type 0
ToldOf way found p q = Told rw_writer_model marked_sees marked_after way (parties_of p) found (counted p) (counted q)

-- where no flag is up, the word is what the holds come to
word_alone : (w : ℕ) (t : MarkedHolds) → t.flags ≡ 0 → IsMarkedOrHeld w t → w ≡ word_of t
word_alone w t down is = omega (arith, is.word_is, is.flagged, down)

-- A step on the lock's word.
module _ (way : Coming ℕ) (intent : Word → Intent ℕ) (found : ℕ) (p : Pass PlayedRwWriter) (may : TableHas way 0 intent (parties_of p)) where
  -- the word is what all holds come to, and the mark
  beside : Share way found p → (rest : MarkedHolds) × (w : ℕ) × IsMarkedOrHeld w (both_marked (counts_of p) rest)
  beside s = (s.rest, word_in rw_writer_table s.past Word.State, held_in s.past (both_marked (counts_of p) s.rest) s.law s.says)

  module _ (tells : (w : Word) (memory : Word → ℕ) → value_told (carried_out (intent w) memory) ≡ Some (memory w)) where
    -- and so is what was found
    found_beside : Share way found p → (rest : MarkedHolds) × IsMarkedOrHeld found (both_marked (counts_of p) rest)
    found_beside s = (
      s.rest,
      subst (λ n. IsMarkedOrHeld n (both_marked (counts_of p) s.rest)) (sym (found_there _ _ _ _ intent (parties_of p) may Word.State may.named found tells (word_in rw_writer_table s.past) s.found_is))
          (held_in s.past (both_marked (counts_of p) s.rest) s.law s.says),
    )

    found_alone : Share way found p → SaysAlone (counted p) found
    found_alone h1 = grind (arith, nat_tests, eqb-true, eqb-false, found_there, held_in, word_alone)

-- a load by a reader, and by a writer

pub looks : (way : Coming ℕ) (found : ℕ) (p q : Pass PlayedRwWriter) → MayLook rw_writer_model RwWriterPlace.TryReadLook RwWriterPlace.ReadLook way (parties_of p) → IsSamePass p q → ToldOf way found p q → HasSeen found p q
looks way found p q (inl may) same told = (same, told Call.TryReadLock RwWriterPlace.TryReadLook None may.done may.comes)
looks way found p q (inr may) same told = (same, told Call.ReadLock (RwWriterPlace.ReadLook may.patience) None may.done may.comes)

pub looks_alone : (way : Coming ℕ) (found : ℕ) (p : Pass PlayedRwWriter) → TableHas way 0 (λ k. Intent.Load k) (parties_of p) → Share way found p → SaysAlone (counted p) found
looks_alone way found p may = found_alone way (λ k. Intent.Load k) found p may (λ w memory. refl)

-- An exchange of a value for another.

abbrev Made : Call ℕ → ℕ → ℕ → ℕ → View MarkedHolds → View MarkedHolds → Type 0
Made call from to found v w = w ≡ view_of v.part (marked_sees (Act.Exchange Word.State from to found (found == from)) v.sights) (marked_after (Act.Exchange Word.State from to found (found == from)) call v.tally)

-- for two more it turned a read hold on
pub made_read : (call : Call ℕ) (from to found : ℕ) (v w : View MarkedHolds) → to ≡ from + 2 → Made call from to found v w → (found ≡ from → w ≡ wrote v (read v.tally)) × (found ≢ from → w ≡ missed v from found)
made_read call from to found v w h1 h2 = grind (arith, nat_tests, eqb-true, eqb-false)

-- for 2 ^ 64 - 1 the write hold
made_write : (call : Call ℕ) (from to found : ℕ) (v w : View MarkedHolds) → from < 2 → to ≡ 2 ^ 64 - 1 → Made call from to found v w → (found ≡ from → w ≡ wrote v (written v.tally)) × (found ≢ from → Missed from v found w)
made_write call from to found v w h1 h2 h3 = grind (arith, nat_tests, eqb-true, eqb-false)

-- for one more it set the mark
pub made_mark : (call : Call ℕ) (from to found : ℕ) (v w : View MarkedHolds) → from ≢ 2 ^ 64 - 2 → to ≡ from + 1 → Made call from to found v w → (found ≡ from → w ≡ wrote v (flagged 1 v.tally)) × (found ≢ from → Missed from v found w)
made_mark call from to found v w h1 h2 h3 = grind (arith, nat_tests, eqb-true, eqb-false)

-- and for one less it took it away
pub made_unmark : (call : Call ℕ) (from to found : ℕ) (v w : View MarkedHolds) → IsMarked from → to ≡ from - 1 → Made call from to found v w → (found ≡ from → w ≡ wrote v (flagged 0 v.tally)) × (found ≢ from → Missed from v found w)
made_unmark call from to found v w h1 h2 h3 = grind (arith, nat_tests, eqb-true, eqb-false)

-- beside others a reader comes in where no writer is
enters_so : (v : View MarkedHolds) (from found : ℕ) (rest : MarkedHolds) → IsOpen from → found ≡ from → IsMarkedOrHeld found (both_marked v.tally rest) → SaysAlone v found → EntersToRead v.part v.tally (read v.tally) from
enters_so v from found rest h1 h2 h3 h4 = grind (arith, nat_tests, eqb-true, eqb-false)

-- and a writer where nobody is
writes_so : (w : ℕ) (t rest : MarkedHolds) → IsMarkedOrHeld w (both_marked t rest) → w < 2 → t.held ≡ no_holds
writes_so w t rest h1 h2 = grind (arith, nat_tests, eqb-true, eqb-false)

module _ (way : Coming ℕ) (from to found : ℕ) (p q : Pass PlayedRwWriter) (may : TableHas way 0 (λ k. Intent.Exchange k from to) (parties_of p)) (told : ToldOf way found p q) where
  pub exchanges : Made may.call from to found (counted p) (counted q)
  exchanges = told_so _ _ _ _ (λ k. Intent.Exchange k from to) (parties_of p) may Word.State may.named found marked_sees marked_after (counted p) (counted q) told

  pub exchanges_alone : Share way found p → SaysAlone (counted p) found
  exchanges_alone = found_alone way (λ k. Intent.Exchange k from to) found p may (λ w memory. refl)

  module _ (share : Share way found p) where
    pub writers_in : from < 2 → to ≡ 2 ^ 64 - 1 → WriterIn from (counted p) found (counted q)
    writers_in free full =
        let made = made_write may.call from to found (counted p) (counted q) free full exchanges in
        let all = found_beside way (λ k. Intent.Exchange k from to) found p may (λ w memory. refl) share in
        record { done = λ hit. (writes_so found (counts_of p) all.0 all.1 (omega (arith, hit, free)), made.0 hit); failed = made.1; alone = exchanges_alone share }

    -- a read hold is turned on from the value found
    pub enters : IsOpen from → found ≡ from → EntersToRead (part_of p) (counts_of p) (read (counts_of p)) from
    enters room hit =
        let all = found_beside way (λ k. Intent.Exchange k from to) found p may (λ w memory. refl) share in
        enters_so (counted p) from found all.0 room hit all.1 (exchanges_alone share)

-- a subtraction of 2, by a pass with a read hold

leaves_so : (p q : Pass PlayedRwWriter) (found : ℕ) (rest : MarkedHolds) → IsSamePass p q → IsMarkedOrHeld found (both_marked (counts_of p) rest) → 0 < reads_of p → counted q ≡ wrote (looked (counted p) found) (no_more_read (counts_of p)) →
    HasLeftReading p q × ((sights_of q).last ≡ found)
leaves_so p q found rest h1 h2 h3 h4 = grind (arith, nat_tests, eqb-true, eqb-false)

pub readers_out : (way : Coming ℕ) (found : ℕ) (p q : Pass PlayedRwWriter) → TableHas way 0 (λ k. Intent.Subtract k 2) (parties_of p) → IsSamePass p q → Share way found p → ToldOf way found p q → 0 < reads_of p →
    HasLeftReading p q × ((sights_of q).last ≡ found)
readers_out way found p q may same share told some =
    let all = found_beside way (λ k. Intent.Subtract k 2) found p may (λ w memory. refl) share in
    leaves_so p q found all.0 same all.1 some (told_so _ _ _ _ (λ k. Intent.Subtract k 2) (parties_of p) may Word.State may.named found marked_sees marked_after (counted p) (counted q) told)

-- a store of 0, by the pass with the write hold
stores_so : (p q : Pass PlayedRwWriter) (w : ℕ) (rest : MarkedHolds) → IsSamePass p q → IsMarkedOrHeld w (both_marked (counts_of p) rest) → writes_of p ≡ 1 → counted q ≡ wrote (counted p) (no_more_written (counts_of p)) → HasLeftWriting p q
stores_so p q w rest h1 h2 h3 h4 = grind (arith, nat_tests, eqb-true, eqb-false)

pub writers_out : (way : Coming ℕ) (p q : Pass PlayedRwWriter) → TableHas way 0 (λ k. Intent.Store k 0) (parties_of p) → IsSamePass p q → Share way 0 p → ToldOf way 0 p q → writes_of p ≡ 1 → HasLeftWriting p q
writers_out way p q h1 h2 h3 h4 h5 = grind (arith, nat_tests, eqb-true, eqb-false, beside, stores_so, told_so)

-- Whenever the rule holds.

abbrev Ruled : List ℕ → List (maybe.Option (Unit {0})) → PlayedRwWriter → Type 0
Ruled = PlaysAndCounts rw_writer_model (Word.State ∷ Word.Counter ∷ []) (λ _ _ _. Unit {0}) AreMarkedIn

word_so : (words : List ℕ) (homes : List (maybe.Option (Unit {0}))) (t : PlayedRwWriter) → Ruled words homes t → IsMarkedOrHeld (get_or words 0 0) t.counts
word_so words homes t r = subst (λ n. IsMarkedOrHeld n t.counts) (sym (hold_at (Word.State ∷ Word.Counter ∷ []) words 0 Word.State _ r.played.hold refl)) (held_in r.played.past t.counts r.played.law r.follows)

pub grants_are_of_a_run : GrantsAreOfARun
grants_are_of_a_run s r = record { run = of_a_run rw_writer_model (Word.State ∷ Word.Counter ∷ []) (λ _ _ _. Unit {0}) AreMarkedIn s.words s.homes (all_in s) r.agree; word = word_so s.words s.homes (all_in s) r.agree }

-- beside a write hold the others have none
pub none_beside : NoHoldBesideTheWriter
none_beside s r i j v w here there writes some = dite (ℕ_discrete i j) (λ same. same)
    (λ apart.
    let two = sum_of_two (none_played nothing_marked) (both_played both_marked) (core_played (λ _. nothing_marked)) (played_add_up nothing_marked both_marked (λ _. nothing_marked) marked_add_up) s.views i j v w here there apart in
    let rest : MarkedHolds = two.0.counts in
    let others : Holds = both_holds w.tally.counts.held rest.held in
    let all : IsMarkedOrHeld (get_or s.words 0 0) (both_marked v.tally.counts (both_marked w.tally.counts rest)) = subst (λ t. IsMarkedOrHeld (get_or s.words 0 0) t) (ap (λ t. t.counts) two.1) (word_so s.words s.homes (all_in s) r.agree) in
    let nobody : others ≡ no_holds = (parts same_nothing tells_same_nothing tt v.tally.counts.held others all.knows).alone writes in
    let theirs = parts same_nothing tells_same_nothing tt w.tally.counts.held rest.held (subst (λ t. Knows tt t) (sym nobody) tt) in
    let reads = ap (λ (t : Holds). read_holds t) nobody in let written = ap (λ (t : Holds). write_holds t) nobody in
    absurd (omega (arith, reads, written, theirs.reads, theirs.writes, some)))

-- where no flag is up there is no mark

no_flag_up : (views : List (View PlayedRwWriter)) → Each (λ v. v.tally.counts.flags ≡ 0) views → (sum_of (none_played nothing_marked) (both_played both_marked) views).counts.flags ≡ 0
no_flag_up [] down = refl
no_flag_up (v ∷ views) down = let rest = no_flag_up views down.1 in let one = down.0 in omega arith

pub no_mark : NoMarkWithoutAFlag
no_mark s r down = grind (arith, nat_tests, eqb-true, eqb-false, word_so s.words s.homes (all_in s) r.agree, no_flag_up s.views down)

-- at the end the word is what the pass's holds come to, since its flag is down
pub closes : (t : PlayedRwWriter) (found : ℕ) → HasClosed Ruled t 0 found → t.counts.flags ≡ 0 → found ≡ word_of t.counts
closes t found is down = sym is.here ∙ word_alone _ t.counts down (word_so is.words is.homes t is.rule)
