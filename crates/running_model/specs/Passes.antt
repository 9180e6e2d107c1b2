-- What a pass of an object that plays a model is there, and what it counts beside.
use Rattle.std.specs.Prelude.{◌≡◌, ℕ, List, ◌∷◌, Option}
use Rattle.running_model.specs.Names.{Pass, View, IsTally, view_of, view, tally_of, Word, Call, Event, HoldKind, Intent, carried_out, word_in, IsPast, Act, Sights}
use mathlib.Core.Option as maybe
use Rattle.running_model.specs.Models.{Model}
use Rattle.running_model.specs.declared.played.Played.{Played}
use Rattle.running_model.specs.Slots.{Slot, slot_at, all_of, Parties, no_parties, both_parties}
use Rattle.running_model.specs.SlotLaws.{parties_add_up}
use Rattle.running_passes.specs.Parts.{IsWhole}
use Rattle.running_model.specs.Words.{IsNamed, IsOnNoWord}
use Rattle.running_model.specs.Plays.{events_of, Matches, IsPlayed, Coming, ComesBy, IsStepAt, act_at, Went, WentBy}

-- the act of the step that found this makes this of what the pass saw and counts, and nothing else does
abbrev pub ToldAt : {V C P : Type 0} → Model V P → (Act V → Sights → Sights) → (P → Act V → Call V → C → C) → Coming V → Parties V → ℕ → View C → View C → Type 0
ToldAt {V} {C} {P} m sees after coming p found v w =
    (call : Call V) (place : P) (hold : Option HoldKind) (done : List (Slot V)) → ComesBy m coming call place hold done p →
    w ≡ view_of v.part (sees (act_at m place hold found) v.sights) (after place (act_at m place hold found) call v.tally)

-- wherever it stands
abbrev pub Told : {V C P : Type 0} → Model V P → (Act V → Sights → Sights) → (Act V → Call V → C → C) → Coming V → Parties V → ℕ → View C → View C → Type 0
Told m sees after = ToldAt m sees (λ _. after)

-- whatever the step finds on the word at this index, its act has what it needs of what the pass counts
abbrev pub HasNeeds : {V C : Type 0} → List Word → ℕ → (Act V → C → Type 0) → (Word → Intent V) → C → Type 0
HasNeeds names i needs intent counts = (name : Word) (found : ℕ) → IsNamed names i name → needs (carried_out (intent name) (λ _. found)) counts

-- What each party counts by its act, after the run before it, all count: if the run says of what all passes count, then it says so of it after the
-- next step.
abbrev pub GoesOnByActs : {V C P : Type 0} → Model V P → (C → C → C) → (List (Event V) → C → Type 0) → (List (Event V) → P → Act V → Call V → C → C) → (Act V → C → Type 0) → Type 0
GoesOnByActs {V} {C} {P} m add follow after needs =
    (call : Call V) (place : P) (hold : Option HoldKind) (past : List (Event V)) (e : Event V) (found : ℕ) → IsStepAt m call place hold found past e →
    (counts rest : C) → needs e.act counts → follow past (add counts rest) → follow (e ∷ past) (add (after past place e.act call counts) rest)

module _ {M Q V C : Type 0} where
  abbrev pub played : Parties V → C → Played M Q V C
  played p counts = record { parties = p; counts = counts }

  abbrev pub both_played : (C → C → C) → Played M Q V C → Played M Q V C → Played M Q V C
  both_played add t u = played (both_parties t.parties u.parties) (add t.counts u.counts)

  abbrev pub none_played : C → Played M Q V C
  none_played none = played no_parties none

  -- what a copy keeps
  abbrev pub core_played : (C → C) → Played M Q V C → Played M Q V C
  core_played core t = played no_parties (core t.counts)

  same_played : (p r : Parties V) (c d : C) → p ≡ r → c ≡ d → played p c ≡ played r d
  same_played p r c d first second = λ i. played (first i) (second i)

  pub played_add_up : (none : C) (add : C → C → C) (core : C → C) → IsTally none add core → IsTally (none_played none) (both_played add) (core_played core)
  played_add_up none add core laws = record {
    unit = λ t. same_played _ _ _ _ ((parties_add_up {V = V}).unit t.parties) (laws.unit t.counts);
    swap = λ t u. same_played _ _ _ _ ((parties_add_up {V = V}).swap t.parties u.parties) (laws.swap t.counts u.counts);
    group = λ t u v. same_played _ _ _ _ ((parties_add_up {V = V}).group t.parties u.parties v.parties) (laws.group t.counts u.counts v.counts);
    copy = λ t. same_played _ _ _ _ ((parties_add_up {V = V}).copy t.parties) (laws.copy t.counts);
  }

  -- the parties that a pass is
  abbrev pub parties_of : Pass (Played M Q V C) → Parties V
  parties_of p = (tally_of p).parties

  -- what it counts beside
  abbrev pub counts_of : Pass (Played M Q V C) → C
  counts_of p = (tally_of p).counts

  -- what it knows, but for its parties
  abbrev pub counted_in : View (Played M Q V C) → View C
  counted_in v = view_of v.part v.sights v.tally.counts

  abbrev pub counted : Pass (Played M Q V C) → View C
  counted p = counted_in (view p)

  -- The words are those of a run in which the passes are parties. What these count together agrees with the words, and is what the run says.
  pub record PlaysAndCounts {P S : Type 0} (m : Model V P) (names : List Word) (agree : List ℕ → List (maybe.Option S) → C → Type 0) (follow : List (Event V) → C → Type 0) (words : List ℕ) (homes : List (maybe.Option S)) (p : Played M Q V C) : Type 0 where
    pub played : IsPlayed m names words p.parties
    pub agrees : agree words homes p.counts
    pub follows : follow played.past p.counts

  -- There is a run of the model in which no other parties are than these passes', each with all events that it has made; and what they count
  -- together is what this run says.
  pub record IsOfARun {P : Type 0} (m : Model V P) (follow : List (Event V) → C → Type 0) (p : Played M Q V C) : Type 0 where
    pub parties : ℕ
    pub past : List (Event V)
    pub run : IsPast m.arithmetic m.table parties past
    pub law : m.law past
    pub each : (q : ℕ) → Matches (slot_at q (all_of p.parties)) (events_of q past)
    pub follows : follow past p.counts

  -- Before the step of a pass with this view there was a run in which the pass and others were the parties, and which says of what all counted. The step
  -- did what it does at the words of that run. Where no other pass was left, there were no others.
  pub record IsShare {P : Type 0} (m : Model V P) (add : C → C → C) (follow : List (Event V) → C → Type 0) (coming : Coming V) (v : View (Played M Q V C)) (found : ℕ) : Type 0 where
    pub parties : ℕ
    pub past : List (Event V)
    pub run : IsPast m.arithmetic m.table parties past
    pub law : m.law past
    pub others : Parties V
    pub each : (q : ℕ) → Matches (slot_at q (all_of (both_parties v.tally.parties others))) (events_of q past)
    pub rest : C
    pub says : follow past (add v.tally.counts rest)
    pub alone : IsWhole v.part → (others ≡ no_parties) × follow past v.tally.counts
    pub found_is : (call : Call V) (place : P) (hold : Option HoldKind) (done : List (Slot V)) → ComesBy m coming call place hold done v.tally.parties → act_at m place hold found ≡ carried_out (m.table.intent place hold) (word_in m.table past)

  -- and what its act, after that run, made of what the pass saw and counted
  pub record Acted {P : Type 0} (m : Model V P) (add : C → C → C) (follow : List (Event V) → C → Type 0) (sees : Act V → Sights → Sights) (after : List (Event V) → P → Act V → Call V → C → C) (coming : Coming V) (v : View (Played M Q V C)) (found : ℕ) (w : View (Played M Q V C)) : Type 0 where
    pub share : IsShare m add follow coming v found
    pub told : ToldAt m sees (after share.past) coming v.tally.parties found (counted_in v) (counted_in w)

  -- What a load that is no step of the model tells: there was a run that says of what all counted, and the pass knows now what they know together.
  pub record Learned {P : Type 0} (m : Model V P) (add : C → C → C) (core : C → C) (follow : List (Event V) → C → Type 0) (v w : View (Played M Q V C)) : Type 0 where
    pub parties : ℕ
    pub past : List (Event V)
    pub run : IsPast m.arithmetic m.table parties past
    pub rest : C
    pub says : follow past (add v.tally.counts rest)
    pub now : w ≡ view_of v.part v.sights (played v.tally.parties (add (core (add v.tally.counts rest)) v.tally.counts))

  -- what a step by a pass with this view tells: where it led; that it alone made it; and what its act did
  pub record SteppedByAct {P : Type 0} (m : Model V P) (add : C → C → C) (follow : List (Event V) → C → Type 0) (sees : Act V → Sights → Sights) (after : List (Event V) → P → Act V → Call V → C → C) (coming : Coming V) (v : View (Played M Q V C)) (found : ℕ) (w : View (Played M Q V C)) : Type 0 where
    pub went : Went m coming v.tally.parties found w.tally.parties
    pub by : WentBy m coming v.tally.parties found w.tally.parties
    pub acted : Acted m add follow sees after coming v found w

-- acts on no word change nothing of it
abbrev pub StaysOnNoWord : {V C : Type 0} → (List (Event V) → C → Type 0) → Type 0
StaysOnNoWord {V} {C} follow = (past : List (Event V)) (e : Event V) (counts : C) → IsOnNoWord e.act → follow past counts → follow (e ∷ past) counts

-- and an act makes the same after it
abbrev pub SameOnNoWord : {V P C : Type 0} → (List (Event V) → P → Act V → Call V → C → C) → Type 0
SameOnNoWord {V} {P} {C} after = (past : List (Event V)) (e : Event V) (place : P) (act : Act V) (call : Call V) (counts : C) → IsOnNoWord e.act → after (e ∷ past) place act call counts ≡ after past place act call counts
