-- What the rule of an atomic says of all passes: one history, which is that of a run in which they are the parties; of two that are joined; and of the
-- last one, at the end.
use Rattle.running_atomic.proofs.Names.{Word, Arithmetic, RegisterAct, after_acts, acts_of_run, Parties, AllHold, IsPlayed, ◌≡◌, ℕ, get_or, List, register_by_acts, atomic_model, atomic_names, StandsAtRun, arith, nat_tests, eqb-true, eqb-false, word_in, atomic_table, none_played, both_played, core_played, played_add_up, sym, refl, ap, ◌∙◌, others, sum_at, content, no_acts, both_tallies, known_tally, tallies_add_up, AtomicAct, acts_in, history_of_run, register_of, data_of, value_of, PlayedAtomic, OneHistory, no_writer, begins, each_act, tally_of, counts_of, Free, subst, HaveClosed, AtomicPass, pass_in, parties_in, history_of, AtomicRules, IsLast, seen_known, View, joined_view, AtomicTally, Settles, Joins}
use Rattle.running_atomic.specs.AtomicSteps.{all_of}
use Rattle.running_atomic.proofs.AtomicKeeps.{lasts}

-- the word of each name
pub three_hold : (words : List ℕ) (memory : Word → ℕ) → AllHold atomic_names words memory → (get_or words 0 0 ≡ memory Word.State) × (get_or words 1 0 ≡ memory Word.Low) × (get_or words 2 0 ≡ memory Word.High)
three_hold words memory h1 = grind (arith, nat_tests, eqb-true, eqb-false)

module _ {T : Type 0} (z : Arithmetic T) (v : T) where
  pub stands : (words : List ℕ) (p : Parties T) (history : List (RegisterAct T)) (value : T) (r : IsPlayed (atomic_model z v) atomic_names words p) → history ≡ acts_of_run z r.past → value ≡ after_acts z v history → StandsAtRun z v p history value
  stands words p history value r h1 h2 = grind (arith, nat_tests, eqb-true, eqb-false, register_by_acts)

-- whenever the rule holds

pub one_history : {T : Type 0} (z : Arithmetic T) → OneHistory z
one_history {T} z opening s r = let is = r.agree.follows in let h : List AtomicAct = history_of_run z r.agree.played.past in
    let words = three_hold s.words (word_in (atomic_table z opening) r.agree.played.past) r.agree.played.hold in
    let value : after_acts z opening (acts_in z h) ≡ value_of z (register_of (all_of s.views).counts.hold (data_of s.words)) = ap (after_acts z opening) is.acts_are ∙ register_by_acts z opening r.agree.played.past ∙ sym is.value_is ∙ (λ i. value_of z (register_of (all_of s.views).counts.hold (content (sym words.1 i) (sym words.2 i)))) in
    record {
      history = acts_in z h;
      begins = λ i v here. let at = sum_at (none_played no_acts) (both_played both_tallies) (core_played known_tally) (played_add_up no_acts both_tallies known_tally tallies_add_up) s.views i v here in
          begins z h v.tally.counts.heard (others (none_played no_acts) (both_played both_tallies) s.views i).counts.heard (ap (λ (t : PlayedAtomic T). t.counts.heard.seen) (sym at) ∙ is.seen);
      own = is.own ∙ sym (each_act z h);
      value_is = λ none. ap (value_of z) (sym (no_writer (all_of s.views).counts.hold (data_of s.words) none)) ∙ sym value;
      in_run = stands z opening s.words (all_of s.views).parties (acts_in z h) (after_acts z opening (acts_in z h)) r.agree.played is.acts_are refl;
    }

-- where two are joined, which then see all of the history

module _ {T : Type 0} (z : Arithmetic T) where
  pub joins : (k : T) (v u both w : View AtomicTally) → both ≡ joined_view both_tallies v u → Settles z k both w → Joins z v u w
  joins k v u both w h1 h2 = grind (arith, nat_tests, eqb-true, eqb-false)

-- with the whole pass, at the end

module _ {T : Type 0} (z : Arithmetic T) (v : T) (p : AtomicPass T) (low high : ℕ) (value : T) (t : HaveClosed (AtomicRules z v) (tally_of (pass_in p)) 1 low 2 high) (rests : (counts_of (pass_in p)).hold ≡ Free) (is : value ≡ z.of_words low high) where
  pub is_last : IsLast z v (counts_of (pass_in p)).heard value
  is_last = let words = three_hold t.words (word_in (atomic_table z v) t.rule.played.past) t.rule.played.hold in
      subst (IsLast z v (counts_of (pass_in p)).heard) (sym is) (lasts z v t.rule.played.past (counts_of (pass_in p)) low high t.rule.follows rests (sym words.1 ∙ t.here) (sym words.2 ∙ t.there))

  pub is_last_in_run : StandsAtRun z v (parties_in p) (history_of z p) value
  is_last_in_run = let follows = t.rule.follows in stands z v t.words (parties_in p) (history_of z p) value t.rule.played (seen_known z (counts_of (pass_in p)).heard (history_of_run z t.rule.played.past) follows.seen ∙ follows.acts_are) is_last.value_is
