-- A turn leads from where a run stands to where it stands with one more event.
use Rattle.sync_steps.proofs.Names.{◌≡◌, ◌≢◌, ℕ, zero, suc, ◌<◌, ◌≤◌, refl, sym, ◌∙◌, ap, subst, List, [], ◌∷◌, length, false, Option, Some, None, Result, Ok, Err, IfOk, IfErr, ◌⊎◌, inl, inr, slice_get, slice_set, get_or, arith, slice_get-get_or, lt-ltb, eqb_tells, length-set, length-replicate, set-get_or, call_of_same, call_of_other, hold_of_same, hold_of_other, eqb-true, eqb-false, nat_tests, ForSome, replicate, Event, Input, Object, StepFault, Act, Then, Word, HoldKind, word_at, Arithmetic, PendingCall, call_of, call_after, hold_of, hold_after, word_after, failures_in, event, InputValues, fault_at, Table, Doing, Party, Turn, table_of, has_word, IsObject, word_in, fault_of, IsNext, Configuration, StandsAt, Steps, RefusesStep, KeepsHeadline, Applies, HasWritten, HasTurned, HasRefused, IsParty, DoesCall, opening_at, turn_at, TurnsTo}
use std.Path.{fun_ext}
use Rattle.model_events.specs.Moves as moves
use Rattle.model_events.specs.Runs as runs
use Rattle.sync_steps.proofs.Objects.{opening_is, headline, absent_word}
use Rattle.sync_steps.proofs.Turns.{Turns, TurnsOr, turns_at}

pub slice_get-set_same : {A : Type 0} (xs : List A) (i : ℕ) (v : A) → i < length xs → slice_get (slice_set xs i v) i ≡ Some v
slice_get-set_same [] i v h = absurd (omega arith)
slice_get-set_same (x ∷ xs) zero v h = refl
slice_get-set_same (x ∷ xs) (suc i) v h = slice_get-set_same xs i v (omega arith)

pub slice_get-set_other : {A : Type 0} (xs : List A) (i j : ℕ) (v : A) → j ≢ i → slice_get (slice_set xs i v) j ≡ slice_get xs j
slice_get-set_other [] i j v other = refl
slice_get-set_other (x ∷ xs) zero zero v other = absurd (other refl)
slice_get-set_other (x ∷ xs) zero (suc j) v other = refl
slice_get-set_other (x ∷ xs) (suc i) zero v other = refl
slice_get-set_other (x ∷ xs) (suc i) (suc j) v other = slice_get-set_other xs i j v (λ e. other (ap suc e))

-- the turn is the party's next after the events
abbrev pub TurnsAfter : {T : Type 0} → Arithmetic T → Object T → List (Event T) → ℕ → Input T → Turn T → Type 0
TurnsAfter z o past party input turn = Turns z o (call_of party past) (hold_of (table_of z o) party past) (word_in z o past) input turn

is_next :
    {T : Type 0} (z : Arithmetic T) (o : Object T) (parties : ℕ) (past : List (Event T)) (party : ℕ) (input : Input T) (turn : Turn T) →
    party < parties → InputValues z input → TurnsAfter z o past party input turn → IsNext z o parties past party input (event party turn.act turn.outcome)
is_next z o parties past party input turn h1 h2 h3 = grind (arith, nat_tests, eqb-true, eqb-false)

-- a party other than the one whose turn it was is as before, and that one as its turn leaves it
stands_each :
    {T : Type 0} (z : Arithmetic T) (o : Object T) (past : List (Event T)) (party : ℕ) (input : Input T) (turn : Turn T) (old : List (Party T)) →
    party < length old → TurnsAfter z o past party input turn →
    ((p : ℕ) → p < length old → ForSome (slice_get old p) (λ x. IsParty z o x (call_of p past) (hold_of (table_of z o) p past))) →
    (p : ℕ) → p < length old → (x : Party T) → slice_get (slice_set old party turn.party) p ≡ Some x →
    ((p ≡ party) ⊎ (p ≢ party)) →
    IsParty z o x (call_of p (event party turn.act turn.outcome ∷ past)) (hold_of (table_of z o) p (event party turn.act turn.outcome ∷ past))
stands_each {T} z o past party input turn old within turns each p below x got (inl is) =
    let t = table_of z o in
    let e = event party turn.act turn.outcome in
    let before : IsParty z o turn.party (call_after turn.outcome e (call_of party past)) (hold_after t turn.act (call_of party past) (hold_of t party past)) = turns.leaves party in
    let P : Option (PendingCall T) → Type 0 = λ c. IsParty z o turn.party c (hold_after t turn.act (call_of party past) (hold_of t party past)) in
    let called : IsParty z o turn.party (call_of party (e ∷ past)) (hold_after t turn.act (call_of party past) (hold_of t party past)) =
    subst P (sym (call_of_same party turn.act turn.outcome past)) before in
    let Q : Option HoldKind → Type 0 = λ h. IsParty z o turn.party (call_of party (e ∷ past)) h in
    let held : IsParty z o turn.party (call_of party (e ∷ past)) (hold_of t party (e ∷ past)) =
    subst Q (sym (hold_of_same t party turn.act turn.outcome past)) called in
    let same : slice_get (slice_set old party turn.party) p ≡ Some turn.party =
    ap (slice_get (slice_set old party turn.party)) is ∙ slice_get-set_same old party turn.party within in
    let here : turn.party ≡ x = cc in
    let R : ℕ → Type 0 = λ q. IsParty z o turn.party (call_of q (e ∷ past)) (hold_of t q (e ∷ past)) in
    let S : Party T → Type 0 = λ y. IsParty z o y (call_of p (e ∷ past)) (hold_of t p (e ∷ past)) in
    subst S here (subst R (sym is) held)
stands_each {T} z o past party input turn old within turns each p below x got (inr other) =
    let t = table_of z o in
    let e = event party turn.act turn.outcome in
    let before : IsParty z o x (call_of p past) (hold_of t p past) = each p below x (sym (slice_get-set_other old party p turn.party other) ∙ got) in
    let P : Option (PendingCall T) → Type 0 = λ c. IsParty z o x c (hold_of t p past) in
    let Q : Option HoldKind → Type 0 = λ h. IsParty z o x (call_of p (e ∷ past)) h in
    subst Q (sym (hold_of_other t party p turn.act turn.outcome past other)) (subst P (sym (call_of_other party p turn.act turn.outcome past other)) before)

-- the run with one more event stands at the machine after the turn
stands_after :
    {T : Type 0} (z : Arithmetic T) (o : Object T) (parties : ℕ) (past : List (Event T)) (old new : Configuration T) (party : ℕ) (input : Input T) (turn : Turn T) →
    party < length old.parties → InputValues z input → StandsAt z o parties past old → TurnsAfter z o past party input turn → Applies party turn old new →
    IsNext z o parties past party input (event party turn.act turn.outcome) × StandsAt z o parties (event party turn.act turn.outcome ∷ past) new
stands_after {T} z o parties past old new party input turn within values at turns applies =
    let below : party < parties = rw at.count at within in
    let next = is_next z o parties past party input turn below values turns in
    let same_length : length new.parties ≡ length old.parties = ap length applies.parties ∙ length-set old.parties party turn.party in (
      next,
      record {
        run = (at.run.0, ((input, next), at.run.1));
        object_is = applies.object ∙ at.object_is;
        count = same_length ∙ at.count;
        memory = λ word. applies.words word ∙ ap (word_after word turn.act) (at.memory word);
        failed = applies.failed (failures_in past) at.failed;
        each = λ p h x got.
            stands_each z o past party input turn old.parties within turns (λ q k. at.each q (rw at.count at k)) p (rw (sym at.count) at h) x (rw applies.parties at got) (place_of p);
      },
    )
  where
    place_of : (p : ℕ) → (p ≡ party) ⊎ (p ≢ party)
    place_of p = elim (eqb_tells p party) [ inl e ↦ inl e.1 | inr e ↦ inr e.1 ]

-- what the machine's own words and object make of it
turns_there :
    {T : Type 0} (z : Arithmetic T) (o : Object T) (parties : ℕ) (past : List (Event T)) (m : Configuration T) (party : ℕ) (found : Party T) (input : Input T) →
    party < length m.parties → slice_get m.parties party ≡ Some found → StandsAt z o parties past m →
    TurnsOr z o (call_of party past) (hold_of (table_of z o) party past) (word_in z o past) input (turn_at z m.object found (word_at m.words) input)
turns_there {T} z o parties past m party found input within got at =
    let t = table_of z o in
    let own : IsParty z o found (call_of party past) (hold_of t party past) = at.each party (rw at.count at within) found got in
    let M : (Word → ℕ) → Type 0 = λ memory. TurnsOr z o (call_of party past) (hold_of t party past) (word_in z o past) input (turn_at z o found memory input) in
    let O : Object T → Type 0 = λ object. TurnsOr z o (call_of party past) (hold_of t party past) (word_in z o past) input (turn_at z object found (word_at m.words) input) in
    let turns = turns_at z o found (word_in z o past) input (call_of party past) (hold_of t party past) own in
    let same : word_at m.words ≡ word_in z o past = fun_ext at.memory in
    subst O (sym at.object_is) (subst M (sym same) turns)

-- a turn of the party
stands_after_turn :
    {T : Type 0} (z : Arithmetic T) (o : Object T) (parties : ℕ) (past : List (Event T)) (old new : Configuration T) (party : ℕ) (found : Party T) (input : Input T) (turn : Turn T) →
    party < length old.parties → slice_get old.parties party ≡ Some found → InputValues z input → turn_at z old.object found (word_at old.words) input ≡ Ok turn → Applies party turn old new → StandsAt z o parties past old →
    IsNext z o parties past party input (event party turn.act turn.outcome) × StandsAt z o parties (event party turn.act turn.outcome ∷ past) new
stands_after_turn {T} z o parties past old new party found input turn within got values is applies at =
    let t = table_of z o in
    let turns : TurnsAfter z o past party input turn =
    subst (λ (r : Result (Turn T) StepFault). TurnsOr z o (call_of party past) (hold_of t party past) (word_in z o past) input r) is (turns_there z o parties past old party found input within got at) in
    stands_after z o parties past old new party input turn within values at turns applies

-- a fault in its place
refused_there :
    {T : Type 0} (z : Arithmetic T) (o : Object T) (parties : ℕ) (past : List (Event T)) (m : Configuration T) (party : ℕ) (found : Party T) (input : Input T) (fault : StepFault) →
    party < length m.parties → slice_get m.parties party ≡ Some found → turn_at z m.object found (word_at m.words) input ≡ Err fault → StandsAt z o parties past m → fault_of z o parties past party input ≡ Some fault
refused_there {T} z o parties past m party found input fault within got is at =
    let t = table_of z o in
    let below : party < parties = rw at.count at within in
    let refused : fault_at t (call_of party past) (hold_of t party past) input ≡ Some fault =
    subst (λ (r : Result (Turn T) StepFault). TurnsOr z o (call_of party past) (hold_of t party past) (word_in z o past) input r) is (turns_there z o parties past m party found input within got at) in
    rw (lt-ltb party parties below) refused

-- a word that the object does not have is 0 at the machine
pub absent_at :
    {T : Type 0} (z : Arithmetic T) (o : Object T) (parties : ℕ) (past : List (Event T)) (m : Configuration T) (word : Word) → StandsAt z o parties past m → has_word o word ≡ false → word_at m.words word ≡ 0
absent_at z o parties past m word at lacks = at.memory word ∙ absent_word z o parties past word at.run lacks

idle_at :
    {T : Type 0} (z : Arithmetic T) (o : Object T) (idle : Party T) (parties p : ℕ) → idle.doing ≡ None → idle.hold ≡ None → ForSome (slice_get (replicate parties idle) p) (λ party. IsParty z o party None None)
idle_at z o idle zero p doing hold party is = absurd cc
idle_at {T} z o idle (suc parties) zero doing hold party is =
    let same : idle ≡ party = cc in
    let D : Option (Doing T) → Type 0 = λ d. DoesCall z o d None in
    subst (λ (x : Party T). IsParty z o x None None) same (record { doing = subst D (sym doing) tt; hold_is = hold })
idle_at z o idle (suc parties) (suc p) doing hold party is = idle_at z o idle parties p doing hold party is

-- the empty run stands at a new machine
pub stands_first :
    {T : Type 0} (z : Arithmetic T) (o : Object T) (parties : ℕ) (idle : Party T) (m : Configuration T) → IsObject z o → m.object ≡ o → m.failed ≡ 0 → ((word : Word) → word_at m.words word ≡ opening_at z o word) →
    idle.doing ≡ None → idle.hold ≡ None → m.parties ≡ replicate parties idle → StandsAt z o parties [] m
stands_first {T} z o parties idle m fits object failed opens doing hold parties_are =
    record {
      run = (fits, tt);
      object_is = object;
      count = ap length parties_are ∙ length-replicate parties idle;
      memory = λ word. opens word ∙ opening_is z o word;
      failed = failed;
      each = λ p below. subst (λ (xs : List (Party T)). ForSome (slice_get xs p) (λ party. IsParty z o party None None)) (sym parties_are) (idle_at z o idle parties p doing hold);
    }

-- What the machine's calls promise, from what its parties did.

turned_steps :
    {T : Type 0} (z : Arithmetic T) (party : ℕ) (input known : Input T) (old new : Configuration T) (made : Event T) →
    party < length old.parties → InputValues z input → input ≡ known → HasTurned z party known old new made → Steps z old party input made new
turned_steps {T} z party input known old new made within values same turned o parties past at =
    let is : turn_at z old.object turned.found (word_at old.words) input ≡ Ok turned.turn = ap (turn_at z old.object turned.found (word_at old.words)) same ∙ turned.is in
    let both = stands_after_turn z o parties past old new party turned.found input turned.turn within turned.there values is turned.applied at in
    subst (λ (e : Event T). IsNext z o parties past party input e × StandsAt z o parties (e ∷ past) new) (sym turned.made_is) both

steps_headline : {T : Type 0} (z : Arithmetic T) (party : ℕ) (input : Input T) (old new : Configuration T) (made : Event T) → Steps z old party input made new → KeepsHeadline z old made
steps_headline z party input old new made steps o parties past at = headline z o parties (made ∷ past) (steps o parties past at).1.run

refused_step :
    {T : Type 0} (z : Arithmetic T) (party : ℕ) (input known : Input T) (old : Configuration T) (fault : StepFault) →
    party < length old.parties → input ≡ known → HasRefused z party known old fault → RefusesStep z old party input fault
refused_step {T} z party input known old fault within same refused o parties past at =
    refused_there z o parties past old party refused.found input fault within refused.there (ap (turn_at z old.object refused.found (word_at old.words)) same ∙ refused.is) at

-- of what a call answers

pub turns_step :
    {T : Type 0} (z : Arithmetic T) (party : ℕ) (input known : Input T) (old new : Configuration T) (result : Result (Event T) StepFault) →
    party < length old.parties → InputValues z input → input ≡ known → IfOk result (HasTurned z party known old new) → IfOk result (λ made. Steps z old party input made new)
turns_step z party input known old new (Ok made) within values same turned = turned_steps z party input known old new made within values same turned
turns_step z party input known old new (Err fault) within values same turned = tt

pub turns_headline :
    {T : Type 0} (z : Arithmetic T) (party : ℕ) (input : Input T) (old new : Configuration T) (result : Result (Event T) StepFault) →
    IfOk result (λ made. Steps z old party input made new) → IfOk result (KeepsHeadline z old)
turns_headline z party input old new (Ok made) steps = steps_headline z party input old new made steps
turns_headline z party input old new (Err fault) steps = tt

pub turns_fault :
    {T : Type 0} (z : Arithmetic T) (party : ℕ) (input known : Input T) (old : Configuration T) (result : Result (Event T) StepFault) →
    party < length old.parties → input ≡ known → IfErr result (HasRefused z party known old) → IfErr result (RefusesStep z old party input)
turns_fault z party input known old result h1 h2 h3 = grind (arith, nat_tests, eqb-true, eqb-false, refused_step)

-- a party changed in place
abbrev pub with_party : {T : Type 0} → Configuration T → ℕ → Party T → Configuration T
with_party m party after = record { object = m.object; parties = slice_set m.parties party after; words = m.words; failed = m.failed }

-- a turn for which the party was changed in place, and then what its act puts was written
pub turned_in_place :
    {T : Type 0} (z : Arithmetic T) {party : ℕ} {input : Input T} {found : Party T} (after : Party T) {answer : Result (Act T × Then T) StepFault} {act : Act T} {outcome : Then T} {made : Event T} {own old new : Configuration T} →
    own ≡ old → party < length old.parties → found ≡ get_or own.parties party found →
    TurnsTo (turn_at z own.object found (word_at own.words) input) found after answer → answer ≡ Ok (act, outcome) →
    made ≡ event party act outcome → HasWritten act (with_party own party after) new → HasTurned z party input old new made
turned_in_place {T} z {party} {input} {found} after {answer} {act} {outcome} {made} {own} {old} {new} same within there turned is told written =
    subst (λ (m : Configuration T). party < length m.parties → HasTurned z party input m new made) same
    (λ below. record {
      found = found;
      there = slice_get-get_or own.parties party found below ∙ ap Some (sym there);
      turn = record { act = act; outcome = outcome; party = after };
      is = subst (TurnsTo (turn_at z own.object found (word_at own.words) input) found after) is turned;
      made_is = told;
      applied = record { object = written.object; parties = written.parties; words = written.words; failed = written.failed };
    })
    within

-- a fault in its place
pub refused_in_place :
    {T : Type 0} (z : Arithmetic T) {party : ℕ} {input : Input T} {found : Party T} (after : Party T) {answer : Result (Act T × Then T) StepFault} {fault : StepFault} {own old : Configuration T} →
    own ≡ old → party < length old.parties → found ≡ get_or own.parties party found →
    TurnsTo (turn_at z own.object found (word_at own.words) input) found after answer → answer ≡ Err fault → HasRefused z party input old fault
refused_in_place {T} z {party} {input} {found} after {answer} {fault} {own} same within there turned is =
    subst (λ (m : Configuration T). party < length m.parties → HasRefused z party input m fault) same
    (λ below. record {
      found = found;
      there = slice_get-get_or own.parties party found below ∙ ap Some (sym there);
      is = (subst (TurnsTo (turn_at z own.object found (word_at own.words) input) found after) is turned).0;
    })
    within

-- after which the machine is as before
pub kept_in_place :
    {T : Type 0} (party : ℕ) (turn : Result (Turn T) StepFault) {found : Party T} (after : Party T) {answer : Result (Act T × Then T) StepFault} {fault : StepFault} {own old : Configuration T} →
    own ≡ old → found ≡ get_or own.parties party found → TurnsTo turn found after answer → answer ≡ Err fault → with_party own party after ≡ old
kept_in_place party turn after h1 h2 h3 h4 = grind (arith, nat_tests, eqb-true, eqb-false, slice_set, set-get_or)

-- What the machine tells of a hold.

there_to_move : {T P : Type 0} (t : Table T P) (parties : ℕ) (past : List (Event T)) (party : ℕ) (input : Input T) → moves.fault_of t parties past party input ≡ None → party < parties
there_to_move t parties past party input h1 = grind (arith, nat_tests, eqb-true, eqb-false)

-- a party that is not there holds nothing
absent_party : {T P : Type 0} (z : Arithmetic T) (t : Table T P) (parties p : ℕ) → (p < parties → ⊥) → (past : List (Event T)) → runs.IsPast z t parties past → hold_of t p past ≡ None
absent_party z t parties p beyond [] run = refl
absent_party z t parties p beyond (e ∷ past) run =
    let below = there_to_move t parties past e.party run.0.0 run.0.1.allowed in
    hold_of_other t e.party p e.act e.then past (λ same. beyond (rw same below)) ∙ absent_party z t parties p beyond past run.1

pub party_at :
    {T : Type 0} (z : Arithmetic T) (o : Object T) (parties : ℕ) (past : List (Event T)) (m : Configuration T) (xs : List (Party T)) (p : ℕ) (found : Party T) → StandsAt z o parties past m → xs ≡ m.parties →
    p < length xs → found ≡ get_or xs p found → IsParty z o found (call_of p past) (hold_of (table_of z o) p past)
party_at {T} z o parties past m xs p found at same within there =
    let is : slice_get m.parties p ≡ Some found = subst (λ (l : List (Party T)). slice_get l p ≡ Some found) same (slice_get-get_or xs p found within ∙ ap Some (sym there)) in
    let below : p < parties = rw (at.count) at (rw same at within) in
    at.each p below found is

pub beyond_at :
    {T : Type 0} (z : Arithmetic T) (o : Object T) (parties : ℕ) (past : List (Event T)) (m : Configuration T) (xs : List (Party T)) (p : ℕ) → StandsAt z o parties past m → xs ≡ m.parties → length xs ≤ p → parties ≤ p
beyond_at z o parties past m xs p h1 h2 h3 = grind (arith, nat_tests, eqb-true, eqb-false)

pub unheld_at :
    {T : Type 0} (z : Arithmetic T) (o : Object T) (parties : ℕ) (past : List (Event T)) (m : Configuration T) (xs : List (Party T)) (p : ℕ) → StandsAt z o parties past m → xs ≡ m.parties →
    length xs ≤ p → None ≡ hold_of (table_of z o) p past
unheld_at z o parties past m xs p h1 h2 h3 = grind (arith, nat_tests, eqb-true, eqb-false, beyond_at, absent_party)
