-- A writer-preferring lock keeps its law at every prefix of every run.
use Rattle.model_rw_writer.proofs.Names.{eqb-false, eqb-true, nat_tests, ◌≡◌, ◌≢◌, ℕ, ◌==◌, refl, sym, ◌∙◌, ap, subst, Bool, true, false, cond, is_some, List, [], ◌∷◌, Option, Some, None, ◌⊎◌, inl, inr, arith, eqb_tells, call_of_same, call_of_other, holds_after, by_move, fault_at_none, MatchOption, WaitAction, Word, Call, Act, Event, HoldKind, After, Arithmetic, carried_out, value_told, place_after, same_word, PendingCall, call_of, call_after, Hold, holds_of, hold_of, word_in, word_after, event, Move, step_at, stage_of, IsPast, Lacks, RwWriterPlace, is_marked, is_mark, rw_writer_table, rw_writer_answered, is_writing, setter_after, setter_of, sets_mark, has_marked, CountsHolds, IsSetter, SetterIsUnderWay}
use Rattle.model_rw_writer.proofs.WordLaws.{IsKeptWord, Keeps, nobody, unchanged, step_keeps}
use Rattle.model_rw_writer.proofs.StageLaws.{IsAt, fact_here, begins_none, answered_at, chosen_at, stepped_at}
use Rattle.model_rw_writer.proofs.PlaceLaws.{AtRwWriter, writer_intent, here}

-- The word counts the holds and the mark.

pub event_keeps :
    {T : Type 0} (z : Arithmetic T) (parties : ℕ) (past : List (Event T)) (e : Event T) → IsPast z rw_writer_table parties (e ∷ past) →
    IsKeptWord (word_in rw_writer_table past Word.State) (holds_of rw_writer_table past) (is_some (setter_of past)) →
    Keeps (holds_of rw_writer_table past) (is_some (setter_of past)) (word_in rw_writer_table (e ∷ past) Word.State) (holds_of rw_writer_table (e ∷ past)) (is_some (setter_of (e ∷ past)))
event_keeps {T} z parties past e run before =
    let same = unchanged (word_in rw_writer_table past Word.State) (holds_of rw_writer_table past) (is_some (setter_of past)) before in
    by_move rw_writer_table (call_of e.party past) (hold_of rw_writer_table e.party past) (word_in rw_writer_table past)
    (λ (k : Option (PendingCall T)) (x : Move T).
    Keeps (holds_of rw_writer_table past) (is_some (setter_of past)) (word_after Word.State x.act (word_in rw_writer_table past Word.State)) (holds_after rw_writer_table e.party k x.act (holds_of rw_writer_table past))
    (is_some (setter_after e.party x.act k (setter_of past))))
    run.0.0 (record { act = e.act; outcome = e.then }) (λ call _. same) (λ action _. same) (λ choice _. same)
    (λ c place _ called stage.
    step_keeps e.party c (word_in rw_writer_table past) (holds_of rw_writer_table past) (setter_of past) (rw_writer_table.intent place (hold_of rw_writer_table e.party past)) before
    (writer_intent place c (hold_of rw_writer_table e.party past) (here z parties past run.1 e.party c place called stage)))
    run.0.1.moved

pub writer_lock_word :
    {T : Type 0} (z : Arithmetic T) (parties : ℕ) (past : List (Event T)) → IsPast z rw_writer_table parties past →
    IsKeptWord (word_in rw_writer_table past Word.State) (holds_of rw_writer_table past) (is_some (setter_of past))
writer_lock_word z parties [] run = nobody
writer_lock_word z parties (e ∷ past) run = (event_keeps z parties past e run (writer_lock_word z parties past run.1)).kept

-- where the mark is set, the word tells so
marked_word : (w : ℕ) (holds : List Hold) → CountsHolds w holds true → is_marked w ≡ true
marked_word w holds h1 = grind (arith, nat_tests, eqb-true, eqb-false)

pub marked_at : {T : Type 0} (past : List (Event T)) (w : ℕ) (holds : List Hold) → CountsHolds w holds (is_some (setter_of past)) → is_some (setter_of past) ≡ true → is_marked w ≡ true
marked_at past w holds law set = marked_word w holds (subst (λ m. CountsHolds w holds m) set law)

-- Who set the mark last is under way, and at a place from where it takes its mark away before it ends.

abbrev pub is_live : RwWriterPlace → Bool
is_live (RwWriterPlace.WriteLook patience) = true
is_live (RwWriterPlace.Enter seen patience) = true
is_live (RwWriterPlace.Mark seen to patience) = true
is_live (RwWriterPlace.Unmark seen to) = true
is_live (RwWriterPlace.LoadCounter patience) = true
is_live (RwWriterPlace.LastLook count patience) = true
is_live place = false

abbrev IsLiveAfter : {T : Type 0} → After T RwWriterPlace → Type 0
IsLiveAfter (After.At place) = is_live place ≡ true
IsLiveAfter (After.Waits place seen) = is_live place ≡ true
IsLiveAfter (After.Chooses place old) = is_live place ≡ true
IsLiveAfter (After.Ends answer) = ⊥

-- while the mark is set, a writer that gives up takes it away

-- What an act does to the mark.

some_party : (p q : ℕ) → Some p ≡ Some q → p ≡ q
some_party p q is = cc

setter_by : (writes marks : Bool) (r : ℕ) (setter : Option ℕ) → Option ℕ
setter_by writes marks r setter = cond writes (cond marks (Some r) None) setter

other_by : (writes marks : Bool) (r p : ℕ) (setter : Option ℕ) → p ≢ r → setter_by writes marks r setter ≡ Some p → setter ≡ Some p
unfolding setter_by
other_by true true r p setter other is = absurd (other (sym (some_party r p is)))
other_by true false r p setter other is = absurd cc
other_by false marks r p setter other is = is

-- the mark of another is as it was
setter_other : {T : Type 0} (r p : ℕ) (act : Act T) (pending : Option (PendingCall T)) (setter : Option ℕ) → p ≢ r → setter_after r act pending setter ≡ Some p → setter ≡ Some p
unfolding setter_by
setter_other r p (Act.Exchange Word.State from to found true) (Some c) setter other is = other_by (is_writing c.call) (is_mark from to) r p setter other is
setter_other r p act pending setter other is = is

new_by : (writes marks : Bool) (r : ℕ) (setter : Option ℕ) → setter_by writes marks r setter ≡ Some r → (setter ≡ Some r) ⊎ (marks ≡ true)
unfolding setter_by
new_by true true r setter is = inr refl
new_by true false r setter is = absurd cc
new_by false marks r setter is = inl is

-- one's own was set before, or by this act
setter_new : {T : Type 0} (r : ℕ) (act : Act T) (pending : Option (PendingCall T)) (setter : Option ℕ) → setter_after r act pending setter ≡ Some r → (setter ≡ Some r) ⊎ (sets_mark act ≡ true)
unfolding setter_by
setter_new r (Act.Exchange Word.State from to found true) (Some c) setter is = new_by (is_writing c.call) (is_mark from to) r setter is
setter_new r act pending setter is = inl is

-- the exchange of a writing call for anything but one more takes the mark away

-- A step of the party that set the mark leads to a place where it is still bound to take it away.

-- at a place that is not live nothing sets the mark

step_live :
    {T : Type 0} (r : ℕ) (place : RwWriterPlace) (c : PendingCall T) (hold : Option HoldKind) (memory : Word → ℕ) (setter : Option ℕ) → AtRwWriter place c hold → (setter ≡ Some r → is_live place ≡ true) → (setter ≡ Some r → is_marked (memory Word.State) ≡ true) →
    setter_after r (step_at rw_writer_table place hold memory).act (Some c) setter ≡ Some r → IsLiveAfter {T = T} (rw_writer_table.after place (value_told {T = T} (carried_out (rw_writer_table.intent place hold) memory)))
step_live r place c hold memory setter h1 h2 h3 h4 = grind (arith, nat_tests, eqb-true, eqb-false)

-- the party's call is under way at such a place, and has set the mark
pub record HasSet {T : Type 0} (place : RwWriterPlace) (own : List (Event T)) : Type 0 where
  pub live : is_live place ≡ true
  pub marked : has_marked own ≡ true

abbrev SetterAt : {T : Type 0} → Option (PendingCall T) → Type 0
SetterAt {T} pending = IsAt (HasSet {T = T}) pending

answered_live : (place : RwWriterPlace) (action : WaitAction) → is_live place ≡ true → is_live (rw_writer_answered place action) ≡ true
answered_live place action h1 = grind (arith, nat_tests, eqb-true, eqb-false)

marked_still : {T : Type 0} (e : Event T) (own : List (Event T)) → has_marked own ≡ true → has_marked (e ∷ own) ≡ true
marked_still e own h1 = grind (arith, nat_tests, eqb-true, eqb-false)

-- the place where a call goes on so
abbrev LiveNext : {T : Type 0} → After T RwWriterPlace → Type 0
LiveNext a = (next : RwWriterPlace) × (place_after a ≡ Some next) × (is_live next ≡ true)

live_next : {T : Type 0} (a : After T RwWriterPlace) → IsLiveAfter a → LiveNext a
live_next a h1 = grind (arith, nat_tests, eqb-true, eqb-false)

-- after a step of the call
stepped_setter :
    {T : Type 0} (r : ℕ) (c : PendingCall T) (place : RwWriterPlace) (hold : Option HoldKind) (memory : Word → ℕ) → stage_of rw_writer_table c ≡ Some place →
    ((e : Event T) → e.act ≡ (step_at rw_writer_table place hold memory).act → has_marked (e ∷ c.own) ≡ true) →
    IsLiveAfter {T = T} (rw_writer_table.after place (value_told {T = T} (carried_out (rw_writer_table.intent place hold) memory))) →
    SetterAt (call_after (step_at rw_writer_table place hold memory).outcome (event r (step_at rw_writer_table place hold memory).act (step_at rw_writer_table place hold memory).outcome) (Some c))
stepped_setter {T} r c place hold memory stage marked live = on (live_next (rw_writer_table.after place (value_told (step_at {T = T} rw_writer_table place hold memory).act)) live)
  where
    on : LiveNext {T = T} (rw_writer_table.after place (value_told (step_at {T = T} rw_writer_table place hold memory).act)) →
        SetterAt (call_after (step_at rw_writer_table place hold memory).outcome (event r (step_at rw_writer_table place hold memory).act (step_at rw_writer_table place hold memory).outcome) (Some c))
    on next = stepped_at (HasSet {T = T}) r c place next.0 hold memory stage next.1 (λ e is. record { live = next.2; marked = marked e is })

marked_by : {T : Type 0} (act : Act T) (e : Event T) (c : PendingCall T) (SetBefore : Type 0) → e.act ≡ act → (SetBefore → has_marked c.own ≡ true) → SetBefore ⊎ (sets_mark act ≡ true) → has_marked (e ∷ c.own) ≡ true
marked_by act e c SetBefore h1 h2 h3 = grind (arith, nat_tests, eqb-true, eqb-false)

own_setter :
    {T : Type 0} (z : Arithmetic T) (parties : ℕ) (past : List (Event T)) (e : Event T) → IsPast z rw_writer_table parties (e ∷ past) → (setter_of past ≡ Some e.party → SetterAt (call_of e.party past)) →
    setter_after e.party e.act (call_of e.party past) (setter_of past) ≡ Some e.party → SetterAt (call_after e.then e (call_of e.party past))
own_setter {T} z parties past e run before set =
    by_move rw_writer_table (call_of e.party past) (hold_of rw_writer_table e.party past) (word_in rw_writer_table past)
    (λ (k : Option (PendingCall T)) (x : Move T).
    (setter_of past ≡ Some e.party → SetterAt k) → setter_after e.party x.act k (setter_of past) ≡ Some e.party → SetterAt (call_after x.outcome (event e.party x.act x.outcome) k))
    run.0.0 (record { act = e.act; outcome = e.then })
    (λ call is was sets. absurd (begins_none (call_of e.party past) (was sets).call (hold_of rw_writer_table e.party past) call run.0.0 (was sets).under_way (fault_at_none rw_writer_table parties past e.party run.0.0 run.0.1.allowed) is))
    (λ action _ was sets. answered_at (HasSet {T = T}) e.party action (call_of e.party past) (λ place own d set. record { live = answered_live place action set.live; marked = marked_still d own set.marked }) (was sets))
    (λ choice _ was sets. chosen_at (HasSet {T = T}) e.party choice (call_of e.party past) (λ place own d set. record { live = set.live; marked = marked_still d own set.marked }) (was sets))
    (λ c place _ called stage was sets. stepped c place called stage was sets)
    run.0.1.moved before set
  where
    stepped : (c : PendingCall T) (place : RwWriterPlace) → call_of e.party past ≡ Some c → stage_of rw_writer_table c ≡ Some place → (setter_of past ≡ Some e.party → SetterAt (Some c)) →
        setter_after e.party (step_at rw_writer_table place (hold_of rw_writer_table e.party past) (word_in rw_writer_table past)).act (Some c) (setter_of past) ≡ Some e.party →
        SetterAt (call_after (step_at rw_writer_table place (hold_of rw_writer_table e.party past) (word_in rw_writer_table past)).outcome (event e.party (step_at rw_writer_table place (hold_of rw_writer_table e.party past) (word_in rw_writer_table past)).act (step_at rw_writer_table place (hold_of rw_writer_table e.party past) (word_in rw_writer_table past)).outcome) (Some c))
    stepped c place called stage was sets =
        let hold = hold_of rw_writer_table e.party past in
        let memory = word_in rw_writer_table past in
        let act : Act T = (step_at rw_writer_table place hold memory).act in
        let word = writer_lock_word z parties past run.1 in
        stepped_setter e.party c place hold memory stage
        (λ d is. marked_by act d c (setter_of past ≡ Some e.party) is (λ set_before. (fact_here (HasSet {T = T}) c place stage (was set_before)).marked) (setter_new e.party act (Some c) (setter_of past) sets))
        (step_live e.party place c hold memory (setter_of past) (here z parties past run.1 e.party c place called stage) (λ set_before. (fact_here (HasSet {T = T}) c place stage (was set_before)).live)
        (λ set_before. marked_at past (memory Word.State) (holds_of rw_writer_table past) word.counts (ap is_some set_before)) sets)

setter_at : {T : Type 0} (z : Arithmetic T) (parties : ℕ) (past : List (Event T)) → IsPast z rw_writer_table parties past → (p : ℕ) → setter_of past ≡ Some p → SetterAt (call_of p past)
setter_at z parties [] run p is = absurd cc
setter_at {T} z parties (e ∷ past) run p is = by_party (setter_at z parties past run.1) (eqb_tells e.party p)
  where
    by_party : ((q : ℕ) → setter_of past ≡ Some q → SetterAt (call_of q past)) → (((e.party == p) ≡ true) × (e.party ≡ p)) ⊎ (((e.party == p) ≡ false) × (e.party ≢ p)) → SetterAt (call_of p (e ∷ past))
    by_party before (inl mine) =
        let own : setter_of (e ∷ past) ≡ Some e.party = is ∙ ap (λ q. Some q) (sym mine.1) in
        let after : SetterAt (call_of e.party (e ∷ past)) = subst (λ (k : Option (PendingCall T)). SetterAt k) (sym (call_of_same e.party e.act e.then past)) (own_setter z parties past e run (before e.party) own) in
        subst (λ q. SetterAt (call_of q (e ∷ past))) mine.1 after
    by_party before (inr other) =
        let apart : p ≢ e.party = λ same. other.1 (sym same) in
        let was : SetterAt (call_of p past) = before p (setter_other e.party p e.act (call_of e.party past) (setter_of past) apart is) in
        subst (λ (k : Option (PendingCall T)). SetterAt k) (sym (call_of_other e.party p e.act e.then past apart)) was

live_calls : {T : Type 0} (place : RwWriterPlace) (c : PendingCall T) (hold : Option HoldKind) → is_live place ≡ true → AtRwWriter place c hold → c.call ≡ Call.WriteLock
live_calls place c hold h1 h2 = grind (arith, nat_tests, eqb-true, eqb-false)

pub setter_is_under_way : {T : Type 0} (z : Arithmetic T) (parties : ℕ) (past : List (Event T)) → IsPast z rw_writer_table parties past → SetterIsUnderWay past
setter_is_under_way {T} z parties past run = by_setter (setter_of past) refl
  where
    by_setter : (setter : Option ℕ) → setter_of past ≡ setter → MatchOption setter (Unit {0}) (λ party. IsSetter party past)
    by_setter None is = tt
    by_setter (Some p) is =
        let setter = setter_at z parties past run p is in
        let writes : setter.call.call ≡ Call.WriteLock = live_calls setter.place setter.call (hold_of rw_writer_table p past) setter.fact.live (here z parties past run p setter.call setter.place setter.under_way setter.stage) in
        rw setter.under_way (writes, setter.fact.marked)

-- a writer-preferring lock has no words but its own and its wake counter
pub rw_writer_lacks : (T : Type 0) (word : Word) → same_word Word.State word ≡ false → same_word Word.Counter word ≡ false → Lacks {T = T} rw_writer_table word
rw_writer_lacks T word h1 h2 = grind (arith, nat_tests, eqb-true, eqb-false)
