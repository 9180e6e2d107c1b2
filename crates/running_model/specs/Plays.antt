-- The rule of an object that plays a model: its words are those of some run of the model, in which the passes are parties.
use Rattle.std.specs.Prelude.{◌≡◌, ◌⊎◌, ℕ, ◌==◌, if◌then◌else◌, List, [], ◌∷◌, Option, Some, None}
use Rattle.running_model.specs.Names.{WaitAction, Word, Call, Act, Answer, Then, Event, Input, HoldKind, Intent, After, carried_out, value_told, PendingCall, call_of, hold_of, hold_after, word_in, latest_outcome, stage_of, hold_fault, CallValues, InputValues, IsPast}
use Rattle.running_model.specs.Models.{Model}
use Rattle.running_model.specs.Slots.{Slot, Free, Mine, Torn, all, slot_at, only, Parties, all_of}
use Rattle.running_model.specs.Words.{AllHold, IsNamed, IsStepOn, IsAside, IsOnNoWord}

-- the events of a party
abbrev pub events_of : {V : Type 0} → ℕ → List (Event V) → List (Event V)
events_of q [] = []
events_of q (e ∷ past) = if e.party == q then e ∷ events_of q past else events_of q past

-- The rule.

-- a slot tells what its party has made
abbrev pub Matches : {V : Type 0} → Slot V → List (Event V) → Type 0
Matches Free made = made ≡ []
Matches (Mine own) made = made ≡ own
Matches Torn made = ⊥

-- the same events, and at most one more, on no word
abbrev pub IsQuietSince : {V : Type 0} → List (Event V) → List (Event V) → Type 0
IsQuietSince {V} own before = (before ≡ own) ⊎ ((e : Event V) × IsOnNoWord e.act × (before ≡ e ∷ own))

-- a call that has made no step yet
abbrev pub fresh_call : {V : Type 0} → Call V → PendingCall V
fresh_call call = record { call = call; own = [] }

-- how a pass comes to a step
pub data Coming (V : Type 0) : Type 0 where
  -- its call goes on by itself
  Going : Coming V
  -- it begins this call, as a party that has made nothing
  Beginning : Call V → Coming V
  -- the party that has its hold begins this call
  Continuing : Call V → Coming V
  -- its wait closure has answered so
  Answered : WaitAction → Coming V
  -- its choice closure has chosen so
  Choosing : Option V → Coming V
  -- its call first makes a step on no word, as its closure's end
  Aside : Coming V

-- `Law` is what the model is known to keep, at every prefix of every run.
module _ {V P : Type 0} (m : Model V P) where
  -- The words stand at a run of the table, and the passes know all of it, each its own.
  pub record IsPlayed (names : List Word) (found : List ℕ) (p : Parties V) : Type 0 where
    pub parties : ℕ
    pub past : List (Event V)
    pub run : IsPast m.arithmetic m.table parties past
    pub law : m.law past
    pub hold : AllHold names found (word_in m.table past)
    pub each : (q : ℕ) → Matches (slot_at q (all_of p)) (events_of q past)

  -- Where a party is.

  -- there is a run in which the party has made these events
  pub record HasMade (party : ℕ) (own : List (Event V)) : Type 0 where
    pub parties : ℕ
    pub past : List (Event V)
    pub run : IsPast m.arithmetic m.table parties past
    pub law : m.law past
    pub own_is : events_of party past ≡ own

  -- The acting party of the pass has this call under way, at this place, and its latest step left it so. It has this hold; and `done`
  -- are the other parties of the pass.
  pub record IsAt (call : Call V) (place : P) (outcome : Then V) (hold : Option HoldKind) (done : List (Slot V)) (p : Parties V) : Type 0 where
    pub party : ℕ
    pub own : List (Event V)
    pub acting : p.acting ≡ only party (Mine own)
    pub resting : p.resting ≡ done
    pub made : HasMade party own
    pub pending : PendingCall V
    pub under_way : call_of party own ≡ Some pending
    pub called : pending.call ≡ call
    pub stage : stage_of m.table pending ≡ Some place
    pub left : latest_outcome pending.own ≡ outcome
    pub has : hold_of m.table party own ≡ hold

  -- the acting party has this hold, and no call under way
  pub record IsHolding (kind : HoldKind) (done : List (Slot V)) (p : Parties V) : Type 0 where
    pub party : ℕ
    pub own : List (Event V)
    pub acting : p.acting ≡ only party (Mine own)
    pub resting : p.resting ≡ done
    pub idle : call_of party own ≡ None
    pub has : hold_of m.table party own ≡ Some kind

  -- there is a run in which the party has just been answered so by this call, and has made these events
  pub record WasAnswered (call : Call V) (answer : Answer V) (party : ℕ) (own : List (Event V)) : Type 0 where
    pub parties : ℕ
    pub past : List (Event V)
    pub latest : Event V
    pub run : IsPast m.arithmetic m.table parties (latest ∷ past)
    pub law : m.law (latest ∷ past)
    pub own_is : events_of party (latest ∷ past) ≡ own
    pub its_own : latest.party ≡ party
    pub pending : PendingCall V
    pub under_way : call_of party past ≡ Some pending
    pub called : pending.call ≡ call
    pub answered : latest.then ≡ Then.Answers answer

  -- what is left of a party whose call is over: its hold, with which it acts, or nothing to be done
  abbrev pub Rests : Option HoldKind → List (Slot V) → Parties V → Type 0
  Rests None done p = p.acting ≡ []
  Rests (Some kind) done p = IsHolding kind done p

  -- A party of the pass has just been answered so by this call, and has this hold. `done` are the other parties of the pass.
  pub record HasEnded (call : Call V) (answer : Answer V) (hold : Option HoldKind) (done : List (Slot V)) (p : Parties V) : Type 0 where
    pub party : ℕ
    pub own : List (Event V)
    pub all_is : all_of p ≡ all (only party (Mine own)) done
    pub answered : WasAnswered call answer party own
    pub rests : Rests hold done p

  -- The pass has made this one call, as a party that is new, and nothing else; it was answered so, and has this hold now.
  abbrev pub HasCalled : Call V → Answer V → Option HoldKind → Parties V → Parties V → Type 0
  HasCalled call answer hold p q = HasEnded call answer hold (all_of p) q

  -- How a pass comes to a step.

  -- a call may begin at this place, by a party that has this hold
  pub record MayBegin (call : Call V) (place : P) (hold : Option HoldKind) : Type 0 where
    pub begins : m.table.begins call ≡ Some place
    pub free : hold_fault m.table call hold ≡ None
    pub values : CallValues m.arithmetic call

  pub record Begins (call : Call V) (place : P) (hold : Option HoldKind) (done : List (Slot V)) (p : Parties V) : Type 0 where
    pub may : MayBegin call place hold
    pub new : hold ≡ None
    pub others : all_of p ≡ done

  pub record BeginsHolding (call : Call V) (place : P) (hold : Option HoldKind) (done : List (Slot V)) (p : Parties V) : Type 0 where
    pub kind : HoldKind
    pub may : MayBegin call place hold
    pub kept : hold ≡ Some kind
    pub holding : IsHolding kind done p

  pub record GoesOnAfter (action : WaitAction) (call : Call V) (place : P) (hold : Option HoldKind) (done : List (Slot V)) (p : Parties V) : Type 0 where
    pub stood : P
    pub told : ℕ
    pub at : IsAt call stood (Then.Waits told) hold done p
    pub answered : place ≡ m.table.answered stood action

  pub record GoesOnChoosing (choice : Option V) (call : Call V) (place : P) (hold : Option HoldKind) (done : List (Slot V)) (p : Parties V) : Type 0 where
    pub stood : P
    pub old : V
    pub at : IsAt call stood (Then.Chooses old) hold done p
    pub chosen : place ≡ m.table.chosen stood choice
    pub values : InputValues m.arithmetic (Input.Choose choice)

  -- from where the step on no word is made
  pub record GoesOnAside (call : Call V) (place : P) (hold : Option HoldKind) (done : List (Slot V)) (p : Parties V) : Type 0 where
    pub from : P
    pub at : IsAt call from Then.GoesOn hold done p
    pub aside : IsAside (m.table.intent from hold)
    pub leads : m.table.after from None ≡ After.At place

  -- by this way the pass comes to a step of this call at this place
  abbrev pub ComesBy : Coming V → Call V → P → Option HoldKind → List (Slot V) → Parties V → Type 0
  ComesBy Going call place hold done p = IsAt call place Then.GoesOn hold done p
  ComesBy (Beginning begun) call place hold done p = (begun ≡ call) × Begins call place hold done p
  ComesBy (Continuing begun) call place hold done p = (begun ≡ call) × BeginsHolding call place hold done p
  ComesBy (Answered action) call place hold done p = GoesOnAfter action call place hold done p
  ComesBy (Choosing choice) call place hold done p = GoesOnChoosing choice call place hold done p
  ComesBy Aside call place hold done p = GoesOnAside call place hold done p

  -- Where a step leads.

  abbrev pub act_at : P → Option HoldKind → ℕ → Act V
  act_at place hold found = carried_out (m.table.intent place hold) (λ _. found)

  abbrev pub hold_then : Call V → P → Option HoldKind → ℕ → Option HoldKind
  hold_then call place hold found = hold_after m.table (act_at place hold found) (Some (fresh_call call)) hold

  -- what the pass is after a step that leads there
  abbrev pub Leads : Call V → After V P → Option HoldKind → List (Slot V) → Parties V → Type 0
  Leads call (After.At place) hold done p = IsAt call place Then.GoesOn hold done p
  Leads call (After.Waits place told) hold done p = IsAt call place (Then.Waits told) hold done p
  Leads call (After.Chooses place old) hold done p = IsAt call place (Then.Chooses old) hold done p
  Leads call (After.Ends answer) hold done p = HasEnded call answer hold done p

  -- the step at a place, which found this, has led it on
  abbrev pub Led : Call V → P → Option HoldKind → ℕ → List (Slot V) → Parties V → Type 0
  Led call place hold found done p = Leads call (m.table.after place (value_told (act_at place hold found))) (hold_then call place hold found) done p

  -- The steps of a pass.

  -- it may make this step on the word at this index
  pub record MayStep (names : List Word) (coming : Coming V) (i : ℕ) (intent : Word → Intent V) (p : Parties V) : Type 0 where
    pub call : Call V
    pub place : P
    pub hold : Option HoldKind
    pub done : List (Slot V)
    pub comes : ComesBy coming call place hold done p
    pub name : Word
    pub named : IsNamed names i name
    pub intends : m.table.intent place hold ≡ intent name
    pub on : IsStepOn name (intent name)

  -- Right after these events a party made the step of this call at this place, which found this; and this is its event.
  pub record IsStepAt (call : Call V) (place : P) (hold : Option HoldKind) (found : ℕ) (past : List (Event V)) (e : Event V) : Type 0 where
    pub parties : ℕ
    pub run : IsPast m.arithmetic m.table parties (e ∷ past)
    pub law : m.law past
    pub pending : PendingCall V
    pub under_way : call_of e.party past ≡ Some pending
    pub called : pending.call ≡ call
    pub stage : stage_of m.table pending ≡ Some place
    pub has : hold_of m.table e.party past ≡ hold
    pub act : e.act ≡ act_at place hold found
    pub found_is : act_at place hold found ≡ carried_out (m.table.intent place hold) (word_in m.table past)

  -- The step of this call at this place, which found this, is one more event of a party of the pass, right after those that it had made; or, where
  -- it began its call, was answered, has chosen or has made a step on no word, after that event. `done` are the other parties of the pass.
  pub record HasStepped (call : Call V) (place : P) (hold : Option HoldKind) (found : ℕ) (done : List (Slot V)) (p q : Parties V) : Type 0 where
    pub party : ℕ
    pub own : List (Event V)
    pub before : List (Event V)
    pub latest : Event V
    pub pending : PendingCall V
    pub was : ((all_of p ≡ done) × (own ≡ [])) ⊎ (all_of p ≡ all (only party (Mine own)) done)
    pub since : IsQuietSince own before
    pub under_way : call_of party before ≡ Some pending
    pub called : pending.call ≡ call
    pub its_own : latest.party ≡ party
    pub act : latest.act ≡ act_at place hold found
    pub free : slot_at party done ≡ Free
    pub now : all_of q ≡ all (only party (Mine (latest ∷ before))) done

  -- it has made its step, which found this, and it alone
  abbrev pub WentBy : Coming V → Parties V → ℕ → Parties V → Type 0
  WentBy coming p found q = (call : Call V) (place : P) (hold : Option HoldKind) (done : List (Slot V)) → ComesBy coming call place hold done p → HasStepped call place hold found done p q

  -- it has made its step, which found this
  abbrev pub Went : Coming V → Parties V → ℕ → Parties V → Type 0
  Went coming p found q = (call : Call V) (place : P) (hold : Option HoldKind) (done : List (Slot V)) → ComesBy coming call place hold done p → Led call place hold found done q
