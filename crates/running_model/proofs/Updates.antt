-- A step that the table has may be made.
use Rattle.running_model.proofs.Names.{Word, Call, Event, HoldKind, Intent, Act, carried_out, value_told, hold_after, word_in, IsPast, View, Sights, IsTally, Updates, view_of, ◌≡◌, ℕ, refl, sym, ap, subst, ◌∙◌, Bool, cond, List, ◌∷◌, Option, Some, set, get_or, eqb_same, Model, Played, Slot, Free, Mine, both, all, slot_at, only, all_of, Parties, both_parties, slot_of_all, AllHold, AreApart, IsStepOn, IsOnNoWord, effect, fresh_call, Coming, IsPlayed, act_at, Leads, Led, IsStepAt, MayStep, Went, HasStepped, WentBy, events_of, played, none_played, both_played, PlaysAndCounts, HasNeeds, GoesOnByActs, StaysOnNoWord, SameOnNoWord, SteppedByAct, Learned, nat_tests, eqb-true, eqb-false, arith}
use mathlib.Core.Option as maybe
use prog.Atomic.{either}
use lib.Seq.{set-get_or}
use Rattle.running_model.proofs.Words.{hold_at, carried_here}
use Rattle.running_model.proofs.Same.{wherever}
use Rattle.running_model.proofs.Ready.{AllMatch, still, ready, step_event, steps}
use Rattle.running_model.proofs.Own.{own_call}

free_first : {V : Type 0} (s r : Slot V) → both s r ≡ Free → s ≡ Free
free_first s r h1 = grind (arith, nat_tests, eqb-true, eqb-false)

module _ {V P : Type 0} (m : Model V P) (names : List Word) where
  -- The step, by what it does: what it leaves in the word, and what it tells of it. What was known of the run before it, and what acts on no
  -- word leave as it is, is known right before its event.
  pub record Makes (before : List (Event V)) (coming : Coming V) (found : List ℕ) (p rest : Parties V) (i y told : ℕ) (intent : Intent V) (call : Call V) (place : P) (hold : Option HoldKind) (Says : List (Event V) → Type 0) : Type 0 where
    pub after : Parties V
    pub past : List (Event V)
    pub latest : Event V
    pub says : Says past
    pub words : AllHold names found (word_in m.table past)
    pub step : IsStepAt m call place hold told past latest
    pub act_is : latest.act ≡ carried_out intent (λ _. told)
    pub parties : ℕ
    pub run : IsPast m.arithmetic m.table parties (latest ∷ past)
    pub law : m.law (latest ∷ past)
    pub hold_now : AllHold names (set found i y) (word_in m.table (latest ∷ past))
    pub each : AllMatch (all_of (both_parties after rest)) (latest ∷ past)
    pub went : Went m coming p told after
    pub by : WentBy m coming p told after
    pub found_is : act_at m place hold told ≡ carried_out (m.table.intent place hold) (word_in m.table before)

  -- and so the words stand at the run that is longer by the step's event
  abbrev pub made_run : (before : List (Event V)) (coming : Coming V) (found : List ℕ) (p rest : Parties V) (i y told : ℕ) (intent : Intent V) (call : Call V) (place : P) (hold : Option HoldKind) (Says : List (Event V) → Type 0) →
      (a : Makes before coming found p rest i y told intent call place hold Says) → IsPlayed m names (set found i y) (both_parties a.after rest)
  made_run _ _ _ _ _ _ _ _ _ _ _ _ _ a = record { parties = a.parties; past = a.latest ∷ a.past; run = a.run; law = a.law; hold = a.hold_now; each = a.each }

  pub makes :
      ((n : ℕ) (past : List (Event V)) → IsPast m.arithmetic m.table n past → m.law past) → AreApart names → (coming : Coming V) (found : List ℕ) (p rest : Parties V) (i y told : ℕ) (intent : Word → Intent V) →
      (may : MayStep m names coming i intent p) → ((w : Word) → effect (intent w) (get_or found i 0) ≡ y) → ((w : Word) → carried_out (intent w) (λ _. get_or found i 0) ≡ carried_out (intent w) (λ _. told)) →
      (r : IsPlayed m names found (both_parties p rest)) (Says : List (Event V) → Type 0) → ((past : List (Event V)) (e : Event V) → IsOnNoWord e.act → Says past → Says (e ∷ past)) → Says r.past →
      Makes r.past coming found p rest i y told (intent may.name) may.call may.place may.hold Says
  makes lawful apart coming found p rest i y told intent may leaves tells r Says quiet says =
      let x : ℕ = get_or found i 0 in
      let on : IsStepOn may.name (m.table.intent may.place may.hold) = subst (IsStepOn may.name) (sym may.intends) may.on in
      let left : effect (m.table.intent may.place may.hold) x ≡ y = ap (λ (k : Intent V). effect k x) may.intends ∙ leaves may.name in
      let before = ready m names found p rest may.call may.place may.hold may.done r coming may.comes in
      let made = steps m names lawful apart r.past found p may.done rest may.call may.place may.hold i y may.name before may.named on left in
      let same : act_at m may.place may.hold x ≡ act_at m may.place may.hold told =
      ap (λ (k : Intent V). carried_out k (λ _. x)) may.intends ∙ tells may.name ∙ sym (ap (λ (k : Intent V). carried_out k (λ _. told)) may.intends) in
      let led : Led m may.call may.place may.hold told may.done made.after =
      subst (λ (a : Act V). Leads m may.call (m.table.after may.place (value_told a)) (hold_after m.table a (Some (fresh_call may.call)) may.hold) may.done made.after) same made.led in
      let act_in : (past : List (Event V)) → AllHold names found (word_in m.table past) → act_at m may.place may.hold told ≡ carried_out (m.table.intent may.place may.hold) (word_in m.table past) =
      λ past words. sym same ∙ ap (λ (n : ℕ). carried_out (m.table.intent may.place may.hold) (λ _. n)) (hold_at names found i may.name (word_in m.table past) words may.named)
      ∙ sym (carried_here may.name (m.table.intent may.place may.hold) (word_in m.table past) on) in
      record {
        after = made.after;
        past = before.past;
        latest = step_event m names before.party may.place may.hold x;
        says = still Says quiet r.past before.past before.later says;
        words = before.words;
        step = record {
          parties = made.parties;
          run = made.run;
          law = lawful before.parties before.past before.run;
          pending = before.pending;
          under_way = before.under_way;
          called = before.called;
          stage = before.stage;
          has = before.has;
          act = same;
          found_is = act_in before.past before.words;
        };
        act_is = ap (λ (k : Intent V). carried_out k (λ _. x)) may.intends ∙ tells may.name;
        parties = made.parties;
        run = made.run;
        law = made.law;
        hold_now = made.hold;
        each = made.each;
        went = wherever m coming (λ call place hold done. Led m call place hold told done made.after) may.call may.place may.hold may.done p may.comes led;
        by = wherever m coming (λ call place hold done. HasStepped m call place hold told done p made.after) may.call may.place may.hold may.done p may.comes (record {
          party = before.party;
          own = before.own;
          before = events_of before.party before.past;
          latest = step_event m names before.party may.place may.hold x;
          pending = before.pending;
          was = before.was;
          since = before.since;
          under_way = own_call before.party before.past ∙ before.under_way;
          called = before.called;
          its_own = refl;
          act = same;
          free = free_first (slot_at before.party may.done) (slot_at before.party (all_of rest)) (sym (slot_of_all before.party may.done (all_of rest)) ∙ before.apart.free);
          now = made.now ∙ ap (λ (o : List (Event V)). all (only before.party (Mine o)) may.done) (rw (eqb_same before.party) refl);
        });
        found_is = act_in r.past r.hold;
      }

  -- beside it the pass counts as it may
  module _ {M Q C : Type 0} (none : C) (add : C → C → C) (unit : (c : C) → add c none ≡ c) (agree : List ℕ → List (maybe.Option (Unit {0})) → C → Type 0) (follow : List (Event V) → C → Type 0) where
    -- where there are no others, the run says so of what the pass counts
    says_alone : (v : View (Played M Q V C)) (rest : Played M Q V C) → rest ≡ none_played none → (past : List (Event V)) → follow past (add v.tally.counts rest.counts) → follow past v.tally.counts
    says_alone v rest blank past says = subst (follow past) (ap (λ (u : Played M Q V C). add v.tally.counts u.counts) blank ∙ unit v.tally.counts) says

    -- what its act does
    pub updates_by_act :
        ((n : ℕ) (past : List (Event V)) → IsPast m.arithmetic m.table n past → m.law past) → AreApart names → StaysOnNoWord follow → ((past : List (Event V)) (found : List ℕ) (homes : List (maybe.Option (Unit {0}))) (c : C) → follow past c → agree found homes c) →
        (sees : Act V → Sights → Sights) (after : List (Event V) → P → Act V → Call V → C → C) (needs : Act V → C → Type 0) → SameOnNoWord after → GoesOnByActs m add follow after needs → (coming : Coming V) (v : View (Played M Q V C)) (i : ℕ) (intent : Word → Intent V) (f shows : ℕ → ℕ) →
        MayStep m names coming i intent v.tally.parties → HasNeeds names i needs intent v.tally.counts →
        ((w : Word) (n : ℕ) → effect (intent w) n ≡ f n) → ((w : Word) (n : ℕ) → carried_out (intent w) (λ _. n) ≡ carried_out (intent w) (λ _. shows n)) →
        Updates (none_played none) (both_played add) (PlaysAndCounts m names agree follow) v i f (λ found. SteppedByAct m add follow sees after coming v (shows found))
    updates_by_act lawful apart quiet free sees after needs same goes coming v i intent f shows may has leaves so = record {
      may = λ found homes rest r alone fits.
          let x : ℕ = get_or found i 0 in
          let act : Act V = act_at m may.place may.hold (shows x) in
          let counts : C = after r.played.past may.place act may.call v.tally.counts in
          let Says : List (Event V) → Type 0 = λ past. follow past (add v.tally.counts rest.counts) × (after past may.place act may.call v.tally.counts ≡ counts) in
          let a = makes lawful apart coming found v.tally.parties rest.parties i (f x) (shows x) intent may (λ w. leaves w x) (λ w. so w x) r.played Says
          (λ past e silent is. (quiet past e (add v.tally.counts rest.counts) silent is.0, same past e may.place act may.call v.tally.counts silent ∙ is.1)) (r.follows, refl) in
          let follows : follow (a.latest ∷ a.past) (add counts rest.counts) = subst (λ (c : C). follow (a.latest ∷ a.past) (add c rest.counts)) (ap (λ (act : Act V). after a.past may.place act may.call v.tally.counts) a.step.act ∙ a.says.1)
          (goes may.call may.place may.hold a.past a.latest (shows x) a.step v.tally.counts rest.counts (subst (λ (act : Act V). needs act v.tally.counts) (sym a.act_is) (has may.name (shows x) may.named)) a.says.0) in (
            view_of v.part (sees act v.sights) (played a.after counts),
            refl,
            record { played = made_run _ _ _ _ _ _ _ _ _ _ _ _ _ a; agrees = free _ _ _ _ follows; follows = follows },
            record {
              went = a.went;
              by = a.by;
              acted = record {
                share = record {
                  parties = r.played.parties;
                  past = r.played.past;
                  run = r.played.run;
                  law = r.played.law;
                  others = rest.parties;
                  each = r.played.each;
                  rest = rest.counts;
                  says = r.follows;
                  alone = λ whole. (ap (λ (u : Played M Q V C). u.parties) (alone whole), says_alone v rest (alone whole) r.played.past r.follows);
                  found_is = wherever m coming (λ _ place hold _. act_at m place hold (shows x) ≡ carried_out (m.table.intent place hold) (word_in m.table r.played.past)) may.call may.place may.hold may.done v.tally.parties may.comes a.found_is;
                };
                told = wherever m coming (λ call place hold _. view_of v.part (sees act v.sights) counts ≡ view_of v.part (sees (act_at m place hold (shows x)) v.sights) (after r.played.past place (act_at m place hold (shows x)) call v.tally.counts))
                    may.call may.place may.hold may.done v.tally.parties may.comes refl;
              };
            },
          );
    }

    -- A load that is no step lets the parties be. What the pass knows then was known before, so all together know and count as they did.
    pub learns : (core : C → C) → IsTally none add core → (v : View (Played M Q V C)) (i : ℕ) →
        Updates (none_played none) (both_played add) (PlaysAndCounts m names agree follow) v i (λ n. n) (λ _ w. Learned m add core follow v w)
    learns core laws v i = record {
      may = λ found homes rest r alone fits.
          let all : C = add v.tally.counts rest.counts in
          let knows : C = add (core all) v.tally.counts in
          let as_before : all ≡ add knows rest.counts = sym (laws.group (core all) v.tally.counts rest.counts ∙ laws.copy all) in (
            view_of v.part v.sights (played v.tally.parties knows),
            refl,
            record {
              played = record {
                parties = r.played.parties;
                past = r.played.past;
                run = r.played.run;
                law = r.played.law;
                hold = subst (λ (ws : List ℕ). AllHold names ws (word_in m.table r.played.past)) (sym (set-get_or found i 0)) r.played.hold;
                each = r.played.each;
              };
              agrees = subst (λ (ws : List ℕ). agree ws homes (add knows rest.counts)) (sym (set-get_or found i 0)) (subst (agree found homes) as_before r.agrees);
              follows = subst (follow r.played.past) as_before r.follows;
            },
            record { parties = r.played.parties; past = r.played.past; run = r.played.run; rest = rest.counts; says = r.follows; now = refl },
          );
    }

pub adds_nothing : {C : Type 0} (none : C) (add : C → C → C) (core : C → C) → IsTally none add core → (c : C) → add c none ≡ c
adds_nothing none add core laws c = laws.swap c none ∙ laws.unit c

-- what an exchange leaves, by either choice

pub either_is : (b : Bool) (x y : ℕ) → cond b x y ≡ either b x y
either_is b x y = grind (arith, nat_tests, eqb-true, eqb-false)
