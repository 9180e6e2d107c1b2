-- What a step makes of what a pass saw and counts, and what the run says of it.
use Rattle.running_atomic.proofs.Names.{not, MatchBool, HoldKind, Word, Call, Act, Event, Intent, Arithmetic, AtomicPlace, word_in, carried_out, View, looked, view_of, view, Pass, Coming, Going, MayStep, IsShare, Acted, Learned, parties_of, counts_of, counted, counted_in, one_more, both_counts, Held, Free, Reading, Writing, both_held, Locks, atomic_table, RegisterAct, plain, update, ends_at_look, acts_of_run, register_after, value_after, answer_to, ◌≡◌, ℕ, ◌+◌, ◌-◌, ◌^◌, ◌<◌, Bool, true, false, cond, List, [], ◌∷◌, ◌++◌, Some, None, length, sym, refl, ap, ◌∙◌, subst, arith, eqb-true, eqb-false, register_by_acts, AtomicTally, Content, AtomicAct, Heard, content, heard, both_heard, atomic_tally, both_tallies, known_tally, heard_adds_up, same_content, atomic_model, atomic_names, IsAtHigh, IsAtLook, ComesAgain, IsAtPutHigh, value_of, act_in, acts_in, history_in, history_of_run, written, IsWritten, known, data_in, held_after, stored, more, heard_after, tally_after, lock_sights, IsRegister, PlayedAtomic, StartsWith, EntersRead, EntersWrite, Leaves, IfHeld, ReadsLow, ReadsHigh, EndsLoad, IfWriting, StoresLow, EndsStore, EndsUnchanged, Settles, Acts, ActsAt, IsReading, IsSettled, IsWriting, IsOn, IsRight, IsStoring, ComparesHigh, IsComparing, IsLast, begins, marks_in, grows_own, seen_known, acts_append, acts_length, each_act, absorbs_first, nat_tests}

abbrev B : Type 0
B = AtomicTally

pub writing_is : (h : Held Content) → IsWriting h → (x r : Content) × (h ≡ Writing x r)
writing_is h h1 = grind (arith, nat_tests, eqb-true, eqb-false)

pub settled_is : (h : Held Content) → IsSettled h → (x : Content) × (h ≡ Writing x x)
settled_is h h1 = grind (arith, nat_tests, eqb-true, eqb-false)

heard_group : (a b c : Heard) → (both_heard (both_heard a b) c).seen ≡ (both_heard a (both_heard b c)).seen
heard_group a b c = ap (λ (t : Heard). t.seen) (heard_adds_up.group a b c)

-- what a hold knows is so
knows : (n : ℕ) (d : Content) (h rest : Held Content) → Locks n d (both_held same_content h rest) → IsOn h → IfHeld h (λ x. x ≡ d)
knows n d h rest h1 h2 = grind (arith, nat_tests, eqb-true, eqb-false)

module _ {T : Type 0} (z : Arithmetic T) (k : T) where
  abbrev P : Type 0
  P = Pass (PlayedAtomic T)

  abbrev Share : Coming T → ℕ → P → Type 0
  Share way found p = IsShare (atomic_model z k) both_tallies (IsRegister z k) way (view p) found

  abbrev Did : Coming T → ℕ → P → P → Type 0
  Did way found p q = Acted (atomic_model z k) both_tallies (IsRegister z k) lock_sights (tally_after z k) way (view p) found (view q)

  -- a step on the word of this name
  module _ (way : Coming T) (i : ℕ) (intent : Word → Intent T) (found : ℕ) (p : P) (may : MayStep (atomic_model z k) atomic_names way i intent (parties_of p)) (name : Word) (named : name ≡ may.name) where
    told_there : (q : P) (acted : Did way found p q) →
        counted q ≡ view_of (counted p).part (lock_sights (carried_out (intent name) (λ _. found)) (counted p).sights) (tally_after z k acted.share.past may.place (carried_out (intent name) (λ _. found)) may.call (counts_of p))
    told_there q acted = grind (arith, nat_tests, eqb-true, eqb-false)

  -- The lock.

  pub looks : (way : Coming T) (found : ℕ) (p q : P) → MayStep (atomic_model z k) atomic_names way 0 (λ w. Intent.Load w) (parties_of p) → Did way found p q → counted q ≡ looked (counted p) found
  looks way found p q may acted = told_there way 0 (λ w. Intent.Load w) found p may Word.State may.named q acted

  pub read_enters : (way : Coming T) (from to found : ℕ) (p q : P) → MayStep (atomic_model z k) atomic_names way 0 (λ w. Intent.Exchange w from to) (parties_of p) → from < 2 ^ 64 - 2 → to ≡ from + 1 → Did way found p q → EntersRead from (counted p) found (counted q)
  read_enters way from to found p q h1 h2 h3 h4 = grind (arith, nat_tests, eqb-true, eqb-false)

  pub write_enters : (way : Coming T) (found : ℕ) (p q : P) → MayStep (atomic_model z k) atomic_names way 0 (λ w. Intent.Exchange w 0 (2 ^ 64 - 1)) (parties_of p) → Did way found p q → EntersWrite (counted p) found (counted q)
  write_enters way found p q h1 h2 = grind (arith, nat_tests, eqb-true, eqb-false)

  pub read_leaves : (way : Coming T) (found : ℕ) (p q : P) → MayStep (atomic_model z k) atomic_names way 0 (λ w. Intent.Subtract w 1) (parties_of p) → Did way found p q → Leaves (counted p) (counted q)
  read_leaves way found p q may acted = told_there way 0 (λ w. Intent.Subtract w 1) found p may Word.State may.named q acted

  pub write_leaves : (way : Coming T) (p q : P) → MayStep (atomic_model z k) atomic_names way 0 (λ w. Intent.Store w 0) (parties_of p) → Did way 0 p q → Leaves (counted p) (counted q)
  write_leaves way p q may acted = told_there way 0 (λ w. Intent.Store w 0) 0 p may Word.State may.named q acted

  -- The data words.

  pub reads_low : (way : Coming T) (found : ℕ) (p q : P) → MayStep (atomic_model z k) atomic_names way 1 (λ w. Intent.Load w) (parties_of p) → IsOn (counts_of p).hold → Did way found p q → ReadsLow (counted p) found (counted q)
  reads_low way found p q h1 h2 h3 = grind (arith, nat_tests, eqb-true, eqb-false)

  high_found : (way : Coming T) (found : ℕ) (p : P) → MayStep (atomic_model z k) atomic_names way 2 (λ w. Intent.Load w) (parties_of p) → IsOn (counts_of p).hold → Share way found p → IfHeld (counts_of p).hold (λ x. found ≡ x.high)
  high_found way found p h1 h2 h3 = grind (arith, nat_tests, eqb-true, eqb-false)

  pub stores_low : (way : Coming T) (new : ℕ) (p q : P) → MayStep (atomic_model z k) atomic_names way 1 (λ w. Intent.Store w new) (parties_of p) → IsWriting (counts_of p).hold → Did way new p q → StoresLow (counted p) new (counted q)
  stores_low way new p q h1 h2 h3 = grind (arith, nat_tests, eqb-true, eqb-false)

  -- The acts.

  -- what the pass may say of an act of its own, at this value
  acts_so : (way : Coming T) (found : ℕ) (p : P) (s : Share way found p) (q : P) (a : RegisterAct T) (old : T) → register_after z k s.past ≡ old → IsWritten z a → (counts_of q).heard ≡ more (history_of_run z s.past) (written z a) (counts_of p).heard →
      (counted q).part ≡ (counted p).part → Acts z k a (answer_to z a old) (counted p) (counted q)
  acts_so way found p s q a old at valid knows part =
      let h : List AtomicAct = history_of_run z s.past in
      let says = s.says in
      let longer : (counts_of q).heard.seen ≡ known (h ++ written z a ∷ []) = ap (λ (t : Heard). t.seen) knows in
      let seen : history_in z (counts_of q).heard ≡ acts_in z (h ++ written z a ∷ []) = seen_known z (counts_of q).heard (h ++ written z a ∷ []) longer in
      record {
        before = acts_of_run z s.past;
        answered = ap (answer_to z a) (register_by_acts z k s.past ∙ at);
        begins = subst (λ l. StartsWith l (history_in z (counts_of p).heard)) says.acts_are (begins z h (counts_of p).heard s.rest.heard says.seen);
        alone = λ whole. let own = (s.alone whole).1 in sym (seen_known z (counts_of p).heard h own.seen ∙ own.acts_are);
        seen = seen ∙ acts_append z h (written z a ∷ []) ∙ (λ i. says.acts_are i ++ valid i ∷ []);
        own = ap (λ (t : Heard). t.own) knows ∙ ap (λ n. one_more n (counts_of p).heard.own) (sym (acts_length z h) ∙ ap length says.acts_are);
        marks = marks_in z (h ++ written z a ∷ []) (counts_of q).heard.own s.rest.heard.own (ap (λ (t : Heard). both_counts t.own s.rest.heard.own) knows ∙ grows_own h (written z a) (counts_of p).heard.own s.rest.heard.own says.own) (history_in z (counts_of q).heard) seen;
        part = part;
      }

  -- the register, under a hold of the pass's own

  module _ (way : Coming T) (found : ℕ) (p : P) (s : Share way found p) where
    abbrev n : ℕ
    n = word_in (atomic_table z k) s.past Word.State

    abbrev d : Content
    d = data_in (word_in (atomic_table z k) s.past)

    reads_register : (x : Content) → (counts_of p).hold ≡ Reading 0 x → register_after z k s.past ≡ value_of z x
    reads_register x h1 = grind (arith, nat_tests, eqb-true, eqb-false)

    writes_register : (x u : Content) → (counts_of p).hold ≡ Writing x u → (register_after z k s.past ≡ value_of z u) × (x ≡ d)
    writes_register x u h1 = grind (arith, nat_tests, eqb-true, eqb-false)

  -- a load of the high word, after which the call goes on, or by which it acts

  pub reads_high : (found : ℕ) (p q : P) → MayStep (atomic_model z k) atomic_names Going 2 (λ w. Intent.Load w) (parties_of p) → IsOn (counts_of p).hold → IsAtLook z k (parties_of p) → Did Going found p q → ReadsHigh (counted p) found (counted q)
  reads_high found p q may on looks acted = grind (arith, nat_tests, eqb-true, eqb-false, acted.told looks.call (AtomicPlace.High looks.call looks.low) looks.at.hold looks.at.done looks.at.at, looks.goes_on (z.of_words looks.low found), high_found Going found p may on acted.share)

  pub ends_load : (low found : ℕ) (p q : P) → MayStep (atomic_model z k) atomic_names Going 2 (λ w. Intent.Load w) (parties_of p) → IsReading (counts_of p).hold → IsAtHigh z k Call.Load low (parties_of p) → Did Going found p q → EndsLoad z k (counted p) found (counted q)
  ends_load low found p q may on at acted = grind (arith, nat_tests, eqb-true, eqb-false, acted.told Call.Load (AtomicPlace.High Call.Load low) at.hold at.done at.at, high_found Going found p may, acts_so Going found p acted.share q (plain Call.Load), reads_register Going found p acted.share)

  pub ends_unchanged : (way : Coming T) (found : ℕ) (p q : P) → IsSettled (counts_of p).hold → ComesAgain z k way (parties_of p) → Did way found p q → EndsUnchanged z k (AtomicAct.FetchUpdate None) (counted p) (counted q)
  ends_unchanged way found p q on again acted = grind (arith, nat_tests, eqb-true, eqb-false, acted.told Call.FetchUpdate (AtomicPlace.Again again.old) (Some HoldKind.Write) again.done again.comes, acts_so way found p acted.share q (update None), writes_register way found p acted.share)

  -- by the value that is compared: where it is another, the act is made
  pub compares_high : (a : AtomicAct) (current : T) (found : ℕ) (p q : P) → MayStep (atomic_model z k) atomic_names Going 2 (λ w. Intent.Load w) (parties_of p) → IsSettled (counts_of p).hold → IsWritten z (act_in z a) → IsComparing z k a current (counts_of p).hold (parties_of p) →
      Did Going found p q → ComparesHigh z k a current (counted p) found (counted q)
  compares_high a current found p q may on valid comparing acted =
      subst (λ (h : Held Content). IfWriting h (λ c old. (found ≡ c.high) × MatchBool (z.same (value_of z c) current) (counted q ≡ counted p) (EndsUnchanged z k a (counted p) (counted q)))) (sym is) (high_is, by_same (z.same (value_of z x) current) refl)
    where
      s : Share Going found p
      s = acted.share

      settled : (x : Content) × ((counts_of p).hold ≡ Writing x x)
      settled = settled_is (counts_of p).hold on

      x : Content
      x = settled.0

      is : (counts_of p).hold ≡ Writing x x
      is = settled.1

      high_is : found ≡ x.high
      high_is = subst (λ (h : Held Content). IfHeld h (λ c. found ≡ c.high)) is (high_found Going found p may (subst IsOn (sym is) tt) s)

      low_is : comparing.low ≡ x.low
      low_is = subst (λ (h : Held Content). IfWriting h (λ c old. comparing.low ≡ c.low)) is comparing.low_is

      ends : ends_at_look z comparing.call None (z.of_words comparing.low found) ≡ not (z.same (value_of z x) current)
      ends = comparing.acts (z.of_words comparing.low found) ∙ (λ i. not (z.same (z.of_words (low_is i) (high_is i)) current))

      told : (b : Bool) → not (z.same (value_of z x) current) ≡ b → counted q ≡ view_of (counted p).part (counted p).sights (atomic_tally (counts_of p).hold (heard_after z (history_of_run z s.past) (cond b (Some (plain comparing.call)) None) (counts_of p).heard))
      told b same = acted.told comparing.call (AtomicPlace.High comparing.call comparing.low) comparing.at.hold comparing.at.done comparing.at.at
          ∙ ap (λ (b : Bool). view_of (counted p).part (counted p).sights (atomic_tally (counts_of p).hold (heard_after z (history_of_run z s.past) (cond b (Some (plain comparing.call)) None) (counts_of p).heard))) (ends ∙ same)

      by_same : (b : Bool) → z.same (value_of z x) current ≡ b → MatchBool b (counted q ≡ counted p) (EndsUnchanged z k a (counted p) (counted q))
      by_same true same = told false (ap not same)
      by_same false same =
          let made = told true (ap not same) in (
            ap (λ (v : View B). v.tally.hold) made,
            subst (λ (h : Held Content). IfWriting h (λ c old. ActsAt z k a old (counted p) (counted q))) (sym is)
                (acts_so Going found p s q (act_in z a) (value_of z x) (writes_register Going found p s x x is).0 valid
                (ap (λ (v : View B). v.tally.heard) made ∙ ap (λ (r : RegisterAct T). more (history_of_run z s.past) (written z r) (counts_of p).heard) (sym comparing.is_act)) (ap (λ (v : View B). v.part) made)),
          )

  -- the act of a call that stores
  stored_is : (a : AtomicAct) (new : T) → IsStoring a → ((x : Content) → a ≡ AtomicAct.FetchUpdate (Some x) → value_of z x ≡ new) → stored z (act_in z a).call new ≡ act_in z a
  stored_is a new h1 h2 = grind (arith, nat_tests, eqb-true, eqb-false)

  pub ends_store : (a : AtomicAct) (new : ℕ) (p q : P) → IsWriting (counts_of p).hold → IsRight z a new (counts_of p).hold → IsStoring a → IsWritten z (act_in z a) → IsAtPutHigh z k (act_in z a).call new (parties_of p) → Did Going new p q → EndsStore z k a (counted p) new (counted q)
  ends_store a new p q on right stores valid puts acted =
      let s = acted.share in
      let w = writing_is (counts_of p).hold on in
      let x : Content = w.0 in
      let u : Content = w.1 in
      let there = writes_register Going new p s x u w.2 in
      let low : ℕ = word_in (atomic_table z k) s.past Word.Low in
      let makes : value_after z (act_in z a) (value_of z u) ≡ z.of_words low new = subst (λ (h : Held Content). IfWriting h (λ c old. value_after z (act_in z a) (value_of z old) ≡ z.of_words c.low new)) w.2 right ∙ ap (λ (c : Content). z.of_words c.low new) there.1 in
      let told = acted.told (act_in z a).call (AtomicPlace.PutHigh new puts.answer) (Some HoldKind.Write) puts.done puts.at in
      let act_is : stored z (act_in z a).call (z.of_words low new) ≡ act_in z a = stored_is a (z.of_words low new) stores (λ c is. ap (λ (b : AtomicAct). value_after z (act_in z b) (value_of z u)) (sym is) ∙ makes) in
      subst (λ (h : Held Content). IfWriting h (λ c found. ((counts_of q).hold ≡ Writing (content c.low new) (content c.low new)) × ActsAt z k a found (counted p) (counted q))) (sym w.2) (
        ap (λ (v : View B). v.tally.hold) told ∙ ap (λ (h : Held Content). held_after {T = T} (data_in (word_in (atomic_table z k) s.past)) (Act.Store Word.High new) h) w.2,
        acts_so Going new p s q (act_in z a) (value_of z u) there.0 valid (ap (λ (v : View B). v.tally.heard) told ∙ ap (λ (r : RegisterAct T). more (history_of_run z s.past) (written z r) (counts_of p).heard) act_is) (ap (λ (v : View B). v.part) told),
      )

  -- a load by which a pass knows all of the history
  pub settles : (v w : View (PlayedAtomic T)) → Learned (atomic_model z k) both_tallies known_tally (IsRegister z k) v w → Settles z k (counted_in v) (counted_in w)
  settles v w learned =
      let h : List AtomicAct = history_of_run z learned.past in
      let says = learned.says in
      let now : counted_in w ≡ view_of (counted_in v).part (counted_in v).sights (both_tallies (known_tally (both_tallies v.tally.counts learned.rest)) v.tally.counts) = ap (λ (u : View (PlayedAtomic T)). counted_in u) learned.now in
      let seen : w.tally.counts.heard.seen ≡ known h = ap (λ (v : View B). v.tally.heard.seen) now ∙ ap (λ (l : List _). (both_heard (heard l []) v.tally.counts.heard).seen) says.seen ∙ absorbs_first v.tally.counts.heard.seen learned.rest.heard.seen (known h) says.seen in
      let all : history_in z w.tally.counts.heard ≡ acts_in z h = seen_known z w.tally.counts.heard h seen in
      let own : w.tally.counts.heard.own ≡ v.tally.counts.heard.own = ap (λ (v : View B). v.tally.heard.own) now in
      record {
        knew = λ a b is. let sum_is : (both_heard (both_heard a b) learned.rest.heard).seen ≡ known h = ap (λ (t : Heard). (both_heard t learned.rest.heard).seen) (sym is) ∙ says.seen in (
          subst (λ l. StartsWith l (history_in z a)) (sym all) (begins z h a (both_heard b learned.rest.heard) (sym (heard_group a b learned.rest.heard) ∙ sum_is)),
          subst (λ l. StartsWith l (history_in z b)) (sym all) (begins z h b (both_heard a learned.rest.heard) (sym (heard_group b a learned.rest.heard) ∙ ap (λ (t : Heard). (both_heard t learned.rest.heard).seen) (heard_adds_up.swap b a) ∙ sum_is)),
        );
        own = own;
        marks = marks_in z h w.tally.counts.heard.own learned.rest.heard.own (ap (λ (l : List ℕ). both_counts l learned.rest.heard.own) own ∙ says.own) (history_in z w.tally.counts.heard) all;
        part = ap (λ (v : View B). v.part) now;
        hold = ap (λ (v : View B). v.tally.hold) now;
      }

  pub lasts : (past : List (Event T)) (t : B) (low high : ℕ) → IsRegister z k past t → t.hold ≡ Free → word_in (atomic_table z k) past Word.Low ≡ low → word_in (atomic_table z k) past Word.High ≡ high → IsLast z k t.heard (z.of_words low high)
  lasts past t low high h1 h2 h3 h4 = grind (arith, nat_tests, eqb-true, eqb-false, each_act, register_by_acts, seen_known)
