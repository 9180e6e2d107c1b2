-- A pass that is ready for a step, whatever the others are, and where the step leads it.
use Rattle.running_model.proofs.Names.{nat_lt, Word, Call, Answer, Act, Event, Then, Input, HoldKind, Intent, After, carried_out, value_told, outcome_of, place_after, PendingCall, word_after, call_of, call_after, call_going_on, hold_of, hold_after, hold_taken, hold_or, is_release, word_in, latest_outcome, event, stage_of, next_stage, begin_fault, IsNext, IsPast, ◌≡◌, ◌≢◌, ℕ, ◌+◌, refl, sym, ap, subst, ◌∙◌, true, cond, List, [], ◌∷◌, Option, Some, None, ◌⊎◌, inl, inr, length, set, get_or, arith, nat_tests, eqb_same, call_of_same, hold_of_same, carried_goes_on, carried_stage, Model, Slot, Free, Mine, both, all, slot_at, only, Parties, parties, all_of, both_parties, group_all, all_of_both, slot_of_all, slot_of_only, slot_of_other, slot_past_end, AllHold, AreApart, IsNamed, IsStepOn, IsOnNoWord, effect, events_of, Matches, IsQuietSince, fresh_call, Coming, Going, Beginning, Continuing, Answered, Choosing, Aside, IsPlayed, IsAt, WasAnswered, HasEnded, MayBegin, ComesBy, act_at, hold_then, Leads, Led, eqb-true, eqb-false}
use Rattle.running_model.proofs.Own.{own_call, own_hold, absent}
use Rattle.running_model.proofs.Next.{run_of_more, begins_next, answers_next, chooses_next, goes_next}
use Rattle.running_model.proofs.Asides.{aside_tells_nothing, is_on_no_word, quiet_words, quiet_hold}
use Rattle.running_model.proofs.Words.{hold_at, same_hold, set_holds, effect_here, effect_there, carried_here}

below_suc : (q m : ℕ) → nat_lt q (q + m + 1) ≡ true
below_suc q m = grind (arith, nat_tests)

-- where one is its owner's, nobody else says so
alone_there : {V : Type 0} (own : List (Event V)) (r : Slot V) (made : List (Event V)) → Matches (both (Mine own) r) made → (r ≡ Free) × (made ≡ own)
alone_there own r made h1 = grind (arith, nat_tests, eqb-true, eqb-false)

-- all slots tell what their parties have made
abbrev pub AllMatch : {V : Type 0} → List (Slot V) → List (Event V) → Type 0
AllMatch slots past = (q : ℕ) → Matches (slot_at q slots) (events_of q past)

-- all but this party's do, which is nobody's there
pub record Others {V : Type 0} (others : List (Slot V)) (past : List (Event V)) (q : ℕ) : Type 0 where
  pub free : slot_at q others ≡ Free
  pub each : (p : ℕ) → p ≢ q → Matches (slot_at p others) (events_of p past)

-- what is known of the party that a pass is, and of all others
parted : {V : Type 0} (others : List (Slot V)) (past : List (Event V)) (q : ℕ) (own : List (Event V)) → AllMatch (all (only q (Mine own)) others) past → Others others past q × (events_of q past ≡ own)
parted {V} others past q own each =
    let same : slot_at q (all (only q (Mine own)) others) ≡ both (Mine own) (slot_at q others) =
    slot_of_all q (only q (Mine own)) others ∙ ap (λ (s : Slot V). both s (slot_at q others)) (slot_of_only q (Mine own)) in
    let here = alone_there own (slot_at q others) (events_of q past) (subst (λ (s : Slot V). Matches s (events_of q past)) same (each q)) in (
      record {
        free = here.0;
        each = λ p apart.
            let other : slot_at p (all (only q (Mine own)) others) ≡ slot_at p others =
            slot_of_all p (only q (Mine own)) others ∙ ap (λ (s : Slot V). both s (slot_at p others)) (slot_of_other q p (Mine own) apart) in
            subst (λ (s : Slot V). Matches s (events_of p past)) other (each p);
      },
      here.1,
    )

-- the party is its owner's again, with all that it has made
joined : {V : Type 0} (others : List (Slot V)) (past : List (Event V)) (q : ℕ) → Others others past q → AllMatch (all (only q (Mine (events_of q past))) others) past
joined others past q h1 = grind (arith, nat_tests, eqb-true, eqb-false, slot_of_all, slot_of_only, slot_of_other)

-- an event of the party is nothing to the others
others_on : {V : Type 0} (others : List (Slot V)) (past : List (Event V)) (q : ℕ) (act : Act V) (outcome : Then V) → Others others past q → Others others (event q act outcome ∷ past) q
others_on others past q act outcome h1 = grind (arith, nat_tests, eqb-true, eqb-false)

-- what acts on no word leave as it is, is so after one of them at most
pub still : {V : Type 0} (Says : List (Event V) → Type 0) → ((past : List (Event V)) (e : Event V) → IsOnNoWord e.act → Says past → Says (e ∷ past)) → (before past : List (Event V)) → IsQuietSince before past → Says before → Says past
still Says h1 before past h2 h3 = grind (arith, nat_tests, eqb-true, eqb-false)

module _ {V P : Type 0} (m : Model V P) (names : List Word) where
  -- Beside these others a party of the pass has a call at this place, and may make its step. Its run is the one before, or one act on no word longer;
  -- and so is what the party had made.
  pub record Ready (before : List (Event V)) (found : List ℕ) (p : Parties V) (done others : List (Slot V)) (call : Call V) (place : P) (hold : Option HoldKind) : Type 0 where
    pub parties : ℕ
    pub past : List (Event V)
    pub run : IsPast m.arithmetic m.table parties past
    pub words : AllHold names found (word_in m.table past)
    pub party : ℕ
    pub there : nat_lt party parties ≡ true
    pub pending : PendingCall V
    pub under_way : call_of party past ≡ Some pending
    pub called : pending.call ≡ call
    pub stage : stage_of m.table pending ≡ Some place
    pub left : latest_outcome pending.own ≡ Then.GoesOn
    pub has : hold_of m.table party past ≡ hold
    pub apart : Others others past party
    pub later : IsQuietSince before past
    pub own : List (Event V)
    pub was : ((all_of p ≡ done) × (own ≡ [])) ⊎ (all_of p ≡ all (only party (Mine own)) done)
    pub since : IsQuietSince own (events_of party past)

  -- all parties, and those of the pass among them
  with_acting : (p rest : Parties V) (done : List (Slot V)) (s : List (Slot V)) → p.acting ≡ s → p.resting ≡ done → all_of (both_parties p rest) ≡ all s (all done (all_of rest))
  with_acting p rest done s h1 h2 = grind (arith, nat_tests, eqb-true, eqb-false, all_of_both, group_all)

  with_all : (p rest : Parties V) (done : List (Slot V)) → all_of p ≡ done → all_of (both_parties p rest) ≡ all done (all_of rest)
  with_all p rest done is = all_of_both p rest ∙ ap (λ (ss : List (Slot V)). all ss (all_of rest)) is

  moved : (past : List (Event V)) (a b : List (Slot V)) → a ≡ b → AllMatch a past → AllMatch b past
  moved past a b same each = subst (λ (ss : List (Slot V)). AllMatch ss past) same each

  module _ (found : List ℕ) (p rest : Parties V) (call : Call V) (place : P) (hold : Option HoldKind) (done : List (Slot V)) (r : IsPlayed m names found (both_parties p rest)) where
    abbrev others : List (Slot V)
    others = all done (all_of rest)

    abbrev IsReady : Type 0
    IsReady = Ready r.past found p done others call place hold

    -- the party of the pass had made these events
    abbrev Was : ℕ → List (Event V) → Type 0
    Was q own = ((all_of p ≡ done) × (own ≡ [])) ⊎ (all_of p ≡ all (only q (Mine own)) done)

    -- what the run says of it
    here : (q : ℕ) (own : List (Event V)) → p.acting ≡ only q (Mine own) → p.resting ≡ done → Others others r.past q × (events_of q r.past ≡ own)
    here q own acting resting = parted others r.past q own (moved r.past _ _ (with_acting p rest done (only q (Mine own)) acting resting) r.each)

    call_is : (q : ℕ) (own : List (Event V)) → events_of q r.past ≡ own → call_of q r.past ≡ call_of q own
    call_is q own is = sym (own_call q r.past) ∙ ap (call_of q) is

    hold_is : (q : ℕ) (own : List (Event V)) → events_of q r.past ≡ own → hold_of m.table q r.past ≡ hold_of m.table q own
    hold_is q own is = sym (own_hold m.table q r.past) ∙ ap (hold_of m.table q) is

    more : (q : ℕ) → IsPast m.arithmetic m.table (q + r.parties + 1) r.past
    more q = run_of_more m.arithmetic m.table r.parties (q + r.parties + 1) r.past (omega arith) r.run

    -- the party acts
    ready_at : IsAt m call place Then.GoesOn hold done p → IsReady
    ready_at at = let is = here at.party at.own at.acting at.resting in record {
      parties = at.party + r.parties + 1;
      past = r.past;
      run = more at.party;
      words = r.hold;
      party = at.party;
      there = below_suc at.party r.parties;
      pending = at.pending;
      under_way = call_is at.party at.own is.1 ∙ at.under_way;
      called = at.called;
      stage = at.stage;
      left = at.left;
      has = hold_is at.party at.own is.1 ∙ at.has;
      apart = is.0;
      later = inl refl;
      own = at.own;
      was = inr (λ i. all (at.acting i) (at.resting i));
      since = inl is.1;
    }

    -- once it has made this act on no word
    ready_after : (q : ℕ) (own : List (Event V)) → Was q own → events_of q r.past ≡ own → Others others r.past q → (input : Input V) (act : Act V) → IsOnNoWord act →
        IsNext m.arithmetic m.table (q + r.parties + 1) r.past q input (event q act Then.GoesOn) → (c : PendingCall V) → call_of q (event q act Then.GoesOn ∷ r.past) ≡ Some c →
        c.call ≡ call → stage_of m.table c ≡ Some place → latest_outcome c.own ≡ Then.GoesOn → hold_of m.table q own ≡ hold → IsReady
    ready_after q own was is apart input act quiet next c under_way called stage left has = let e : Event V = event q act Then.GoesOn in record {
      parties = q + r.parties + 1;
      past = e ∷ r.past;
      run = ((input, next), more q);
      words = same_hold names found (word_in m.table r.past) (word_in m.table (e ∷ r.past)) r.hold (λ n. quiet_words n act (word_in m.table r.past n) quiet);
      party = q;
      there = below_suc q r.parties;
      pending = c;
      under_way = under_way;
      called = called;
      stage = stage;
      left = left;
      has = hold_of_same m.table q act Then.GoesOn r.past ∙ quiet_hold m.table act (call_of q r.past) (hold_of m.table q r.past) quiet ∙ hold_is q own is ∙ has;
      apart = others_on others r.past q act Then.GoesOn apart;
      later = inr (e, quiet, refl);
      own = own;
      was = was;
      since = inr (e, quiet, rw (eqb_same q) (ap (λ (o : List (Event V)). e ∷ o) is));
    }

    -- it begins a call
    begins : (q : ℕ) (own : List (Event V)) → Was q own → events_of q r.past ≡ own → Others others r.past q → call_of q own ≡ None → hold_of m.table q own ≡ hold → MayBegin m call place hold → IsReady
    begins q own was is apart idle has may =
        let before : hold_of m.table q r.past ≡ hold = hold_is q own is ∙ has in
        let free : begin_fault m.table None (hold_of m.table q r.past) call ≡ None = rw (before, may.begins) may.free in
        ready_after q own was is apart (Input.Begin call) (Act.Begun call) tt (begins_next m.arithmetic m.table (q + r.parties + 1) r.past q call (below_suc q r.parties) (call_is q own is ∙ idle) free may.values)
        (fresh_call call) (call_of_same q (Act.Begun call) Then.GoesOn r.past) refl may.begins refl has

    -- its call, which stood there, goes on
    goes_on : (stood : P) (outcome : Then V) (at : IsAt m call stood outcome hold done p) (input : Input V) (act : Act V) → IsOnNoWord act →
        (call_of at.party r.past ≡ Some at.pending → hold_of m.table at.party r.past ≡ hold → IsNext m.arithmetic m.table (at.party + r.parties + 1) r.past at.party input (event at.party act Then.GoesOn)) →
        call_going_on act (event at.party act Then.GoesOn) (Some at.pending) ≡ Some (record { call = at.pending.call; own = event at.party act Then.GoesOn ∷ at.pending.own }) → next_stage m.table act (Some stood) ≡ Some place → IsReady
    goes_on stood outcome at input act quiet next going leads =
        let q : ℕ = at.party in
        let e : Event V = event q act Then.GoesOn in
        let is = here q at.own at.acting at.resting in
        let under_way : call_of q r.past ≡ Some at.pending = call_is q at.own is.1 ∙ at.under_way in
        ready_after q at.own (inr (λ i. all (at.acting i) (at.resting i))) is.1 is.0 input act quiet (next under_way (hold_is q at.own is.1 ∙ at.has)) (record { call = at.pending.call; own = e ∷ at.pending.own })
        (call_of_same q act Then.GoesOn r.past ∙ ap (call_going_on act e) under_way ∙ going) at.called (ap (next_stage m.table act) at.stage ∙ leads) refl at.has

    pub ready : (coming : Coming V) → ComesBy m coming call place hold done p → IsReady
    ready Going at = ready_at at
    ready (Beginning begun) comes =
        let b = comes.1 in
        let q : ℕ = r.parties + length others in
        let each = moved r.past _ _ (with_all p rest done b.others) r.each in
        begins q [] (inl (b.others, refl)) (absent m r.parties q r.past (omega arith) r.run) (record { free = slot_past_end q others (omega arith); each = λ p _. each p }) refl (sym b.new) b.may
    ready (Continuing begun) comes =
        let h = comes.1.holding in
        let is = here h.party h.own h.acting h.resting in
        begins h.party h.own (inr (λ i. all (h.acting i) (h.resting i))) is.1 is.0 h.idle (h.has ∙ sym comes.1.kept) comes.1.may
    ready (Answered action) g = goes_on g.stood (Then.Waits g.told) g.at (Input.Answer action) (Act.Answered action) tt
        (λ under_way _. answers_next m.arithmetic m.table (g.at.party + r.parties + 1) r.past g.at.party g.at.pending action (below_suc g.at.party r.parties) under_way (rw g.at.left refl)) refl (ap (λ (s : P). Some s) (sym g.answered))
    ready (Choosing choice) g = goes_on g.stood (Then.Chooses g.old) g.at (Input.Choose choice) (Act.Chosen choice) tt
        (λ under_way _. chooses_next m.arithmetic m.table (g.at.party + r.parties + 1) r.past g.at.party g.at.pending choice (below_suc g.at.party r.parties) under_way (rw g.at.left refl) g.values) refl (ap (λ (s : P). Some s) (sym g.chosen))
    ready Aside g =
        let q : ℕ = g.at.party in
        let intent : Intent V = m.table.intent g.from hold in
        let memory : Word → ℕ = word_in m.table r.past in
        let act : Act V = carried_out intent memory in
        let led : m.table.after g.from (value_told act) ≡ After.At place = ap (m.table.after g.from) (aside_tells_nothing intent memory g.aside) ∙ g.leads in
        goes_on g.from Then.GoesOn g.at Input.Go act (is_on_no_word intent memory g.aside)
        (λ under_way has. subst (λ (o : Then V). IsNext m.arithmetic m.table (q + r.parties + 1) r.past q Input.Go (event q act o)) (ap outcome_of led)
        (subst (λ (k : Option HoldKind). IsNext m.arithmetic m.table (q + r.parties + 1) r.past q Input.Go (event q (carried_out (m.table.intent g.from k) memory) (outcome_of (m.table.after g.from (value_told (carried_out (m.table.intent g.from k) memory)))))) has
        (goes_next m.arithmetic m.table (q + r.parties + 1) r.past q g.at.pending g.from (below_suc q r.parties) under_way g.at.stage (rw g.at.left refl))))
        (carried_goes_on intent memory (event q act Then.GoesOn) g.at.pending) (carried_stage m.table g.from intent memory ∙ ap place_after led)

  -- The step is made.

  -- the hold that an act takes depends on the call alone
  taken_by_call : (act : Act V) (c : PendingCall V) → hold_taken m.table act (Some c) ≡ hold_taken m.table act (Some (fresh_call c.call))
  taken_by_call act c = grind (arith, nat_tests, eqb-true, eqb-false)

  then_by_call : (act : Act V) (c : PendingCall V) (hold : Option HoldKind) → hold_after m.table act (Some c) hold ≡ hold_after m.table act (Some (fresh_call c.call)) hold
  then_by_call act c hold = ap (λ (k : Option HoldKind). cond (is_release act) None (hold_or k hold)) (taken_by_call act c)

  -- What the pass is after the step, and the words: they stand at a run that is this event longer.
  pub record Stepped (found : List ℕ) (done : List (Slot V)) (rest : Parties V) (i y : ℕ) (past : List (Event V)) (e : Event V) (leads : Parties V → Type 0) : Type 0 where
    pub after : Parties V
    pub parties : ℕ
    pub run : IsPast m.arithmetic m.table parties (e ∷ past)
    pub law : m.law (e ∷ past)
    pub hold : AllHold names (set found i y) (word_in m.table (e ∷ past))
    pub each : AllMatch (all_of (both_parties after rest)) (e ∷ past)
    pub led : leads after
    pub now : all_of after ≡ all (only e.party (Mine (events_of e.party (e ∷ past)))) done

  -- the event of the step, which found this
  abbrev pub step_event : ℕ → P → Option HoldKind → ℕ → Event V
  step_event q place hold x = event q (act_at m place hold x) (outcome_of (m.table.after place (value_told (act_at m place hold x))))

  pub steps :
      ((n : ℕ) (past : List (Event V)) → IsPast m.arithmetic m.table n past → m.law past) → AreApart names → (before : List (Event V)) (found : List ℕ) (p : Parties V) (done : List (Slot V)) (rest : Parties V) (call : Call V) (place : P) (hold : Option HoldKind) (i y : ℕ) (w : Word) →
      (r : Ready before found p done (all done (all_of rest)) call place hold) → IsNamed names i w → IsStepOn w (m.table.intent place hold) → effect (m.table.intent place hold) (get_or found i 0) ≡ y →
      Stepped found done rest i y r.past (step_event r.party place hold (get_or found i 0)) (Led m call place hold (get_or found i 0) done)
  steps lawful apart before found p done rest call place hold i y w r named on leaves = by_after (m.table.after place (value_told (act_at m place hold x))) refl
    where
      x : ℕ
      x = get_or found i 0

      q : ℕ
      q = r.party

      others : List (Slot V)
      others = all done (all_of rest)

      seen : x ≡ word_in m.table r.past w
      seen = hold_at names found i w (word_in m.table r.past) r.words named

      act : Act V
      act = act_at m place hold x

      outcome : Then V
      outcome = outcome_of (m.table.after place (value_told act))

      e : Event V
      e = step_event q place hold x

      new : List (Event V)
      new = e ∷ r.past

      own : List (Event V)
      own = events_of q new

      act_is : carried_out (m.table.intent place (hold_of m.table q r.past)) (word_in m.table r.past) ≡ act
      act_is = ap (λ h. carried_out (m.table.intent place h) (word_in m.table r.past)) r.has ∙ carried_here w (m.table.intent place hold) (word_in m.table r.past) on
          ∙ ap (λ (n : ℕ). carried_out (m.table.intent place hold) (λ _. n)) (sym seen)

      run : IsPast m.arithmetic m.table r.parties new
      run = (
        (
          Input.Go,
          subst (λ (a : Act V). IsNext m.arithmetic m.table r.parties r.past q Input.Go (event q a (outcome_of (m.table.after place (value_told a))))) act_is
              (goes_next m.arithmetic m.table r.parties r.past q r.pending place r.there r.under_way r.stage (rw r.left refl)),
        ),
        r.run,
      )

      law : m.law new
      law = lawful r.parties new run

      call_now : call_of q own ≡ call_after outcome e (Some r.pending)
      call_now = own_call q new ∙ call_of_same q act outcome r.past ∙ ap (call_after outcome e) r.under_way

      hold_now : hold_of m.table q own ≡ hold_then m call place hold x
      hold_now = own_hold m.table q new ∙ hold_of_same m.table q act outcome r.past ∙ ap (λ (k : Option (PendingCall V)). hold_after m.table act k (hold_of m.table q r.past)) r.under_way
          ∙ ap (hold_after m.table act (Some r.pending)) r.has ∙ then_by_call act r.pending hold ∙ ap (λ (k : Call V). hold_after m.table act (Some (fresh_call k)) hold) r.called

      words_now : AllHold names (set found i y) (word_in m.table new)
      words_now = set_holds names found i w (word_in m.table r.past) (word_in m.table new) y apart r.words named
          (ap (word_after w act) (sym seen) ∙ effect_here w (m.table.intent place hold) (λ _. x) on ∙ leaves)
          (λ n other. effect_there w n (m.table.intent place hold) (λ _. x) (word_in m.table r.past n) on other)

      all_match : AllMatch (all (only q (Mine own)) others) new
      all_match = joined others new q (others_on others r.past q act outcome r.apart)

      stands : (leads : Parties V → Type 0) (p : Parties V) → all_of p ≡ all (only q (Mine own)) done → all_of (both_parties p rest) ≡ all (only q (Mine own)) others → leads p → Stepped found done rest i y r.past e leads
      stands leads p now is led = record { now = now; after = p; parties = r.parties; run = run; law = law; hold = words_now; each = moved new _ _ (sym is) all_match; led = led }

      -- the party acts on
      acting : (leads : Parties V → Type 0) → leads (parties (only q (Mine own)) done) → Stepped found done rest i y r.past e leads
      acting leads = stands leads (parties (only q (Mine own)) done) refl (with_acting (parties (only q (Mine own)) done) rest done (only q (Mine own)) refl refl)

      -- or rests
      resting : (leads : Parties V → Type 0) → leads (parties [] (all (only q (Mine own)) done)) → Stepped found done rest i y r.past e leads
      resting leads = stands leads (parties [] (all (only q (Mine own)) done)) refl (with_all (parties [] (all (only q (Mine own)) done)) rest (all (only q (Mine own)) done) refl ∙ group_all (only q (Mine own)) done (all_of rest))

      on_from : (a : After V P) (next : P) → m.table.after place (value_told act) ≡ a → place_after a ≡ Some next →
          ((k : Option (PendingCall V)) → call_after (outcome_of a) e k ≡ call_going_on act e k) →
          Stepped found done rest i y r.past e (IsAt m call next (outcome_of a) (hold_then m call place hold x) done)
      on_from a next is to goes =
          let c : PendingCall V = record { call = r.pending.call; own = e ∷ r.pending.own } in
          acting (IsAt m call next (outcome_of a) (hold_then m call place hold x) done) (record {
            party = q;
            own = own;
            acting = refl;
            resting = refl;
            made = record { parties = r.parties; past = new; run = run; law = law; own_is = refl };
            pending = c;
            under_way = call_now ∙ ap (λ (o : Then V). call_after o e (Some r.pending)) (ap outcome_of is) ∙ goes (Some r.pending) ∙ carried_goes_on (m.table.intent place hold) (λ _. x) e r.pending;
            called = r.called;
            stage = ap (next_stage m.table act) r.stage ∙ carried_stage m.table place (m.table.intent place hold) (λ _. x) ∙ ap place_after is ∙ to;
            left = ap outcome_of is;
            has = hold_now;
          })

      answered : (answer : Answer V) → m.table.after place (value_told act) ≡ After.Ends answer → WasAnswered m call answer q own
      answered answer is = record {
        parties = r.parties;
        past = r.past;
        latest = e;
        run = run;
        law = law;
        own_is = refl;
        its_own = refl;
        pending = r.pending;
        under_way = r.under_way;
        called = r.called;
        answered = ap outcome_of is;
      }

      ended : (answer : Answer V) → m.table.after place (value_told act) ≡ After.Ends answer → (h : Option HoldKind) → hold_of m.table q own ≡ h →
          Stepped found done rest i y r.past e (HasEnded m call answer h done)
      ended answer is None none = resting (HasEnded m call answer None done) (record { party = q; own = own; all_is = refl; answered = answered answer is; rests = refl })
      ended answer is (Some kind) has = acting (HasEnded m call answer (Some kind) done) (record {
        party = q;
        own = own;
        all_is = refl;
        answered = answered answer is;
        rests = record {
          party = q;
          own = own;
          acting = refl;
          resting = refl;
          idle = call_now ∙ ap (λ (o : Then V). call_after o e (Some r.pending)) (ap outcome_of is);
          has = has;
        };
      })

      by_after : (a : After V P) → m.table.after place (value_told (act_at m place hold x)) ≡ a → Stepped found done rest i y r.past e (Leads m call a (hold_then m call place hold x) done)
      by_after (After.At next) is = on_from (After.At next) next is refl (λ k. refl)
      by_after (After.Waits next told) is = on_from (After.Waits next told) next is refl (λ k. refl)
      by_after (After.Chooses next old) is = on_from (After.Chooses next old) next is refl (λ k. refl)
      by_after (After.Ends answer) is = ended answer is (hold_then m call place hold x) hold_now
