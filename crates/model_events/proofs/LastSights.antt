-- What a call knows of a word by its last look: the word still holds what was seen, or another party has written it since.
use Rattle.model_events.proofs.Names.{eqb-true, eqb-false, nat_tests, ◌≡◌, ℕ, ◌==◌, refl, sym, ◌∙◌, subst, Bool, true, false, cond, List, [], ◌∷◌, Option, Some, ◌⊎◌, inl, inr, arith, MatchBool, Arithmetic, Table, PendingCall, word_after, word_in, call_of, call_after, IsPast, sight_of, is_sight, is_beginning, is_write, AtLastSight, OtherWroteSinceSight, IsTold, Word, Act, Call, Event, Then}
use Rattle.model_events.proofs.Steps.{tells_memory}

-- the latest of a call's own events is a look: it told this value and wrote nothing
abbrev pub IsLook : {T : Type 0} → Word → ℕ → List (Event T) → Type 0
IsLook word seen [] = ⊥
IsLook word seen (e ∷ own) = (sight_of word e.act ≡ Some seen) × (is_write word e.act ≡ false)

-- An act that writes nothing leaves the word.

unwritten : {T : Type 0} (word : Word) (act : Act T) (value : ℕ) → is_write word act ≡ false → word_after word act value ≡ value
unwritten word act value h1 = grind (arith, nat_tests, eqb-true, eqb-false)

-- What a sight told is what the word held.

pub sight_is_told : {T : Type 0} (word : Word) (act : Act T) (memory : Word → ℕ) (seen : ℕ) → sight_of word act ≡ Some seen → IsTold act memory → memory word ≡ seen
sight_is_told word act memory seen h1 h2 = grind (arith, nat_tests, eqb-true, eqb-false)

-- The latest event of a call under way is the look.

latest_looks :
    {T : Type 0} (word : Word) (seen : ℕ) (outcome : Then T) (e : Event T) (pending : Option (PendingCall T)) (c : PendingCall T) →
    call_after outcome e pending ≡ Some c → IsLook word seen c.own → (sight_of word e.act ≡ Some seen) × (is_write word e.act ≡ false)
latest_looks word seen outcome e pending c h1 h2 = grind (arith, nat_tests, eqb-true, eqb-false)

-- The word still holds what the look told, or another party has written it since.
pub kept_or_written :
    {T P : Type 0} (z : Arithmetic T) (t : Table T P) (parties : ℕ) (word : Word) (party seen : ℕ) (past : List (Event T)) → IsPast z t parties past →
    (c : PendingCall T) → call_of party past ≡ Some c → IsLook word seen c.own → OtherWroteSinceSight word party past ⊎ (word_in t past word ≡ seen)
kept_or_written z t parties word party seen [] run c called look = absurd cc
kept_or_written {T} z t parties word party seen (e ∷ past) run c called look =
    by_party (kept_or_written z t parties word party seen past run.1 c) (e.party == party) called
  where
    by_write : (b : Bool) → is_write word e.act ≡ b → OtherWroteSinceSight word party past ⊎ (word_in t past word ≡ seen) →
        MatchBool b (Unit {0}) (OtherWroteSinceSight word party past) ⊎ (word_after word e.act (word_in t past word) ≡ seen)
    by_write true is before = inl tt
    by_write false is (inl wrote) = inl wrote
    by_write false is (inr kept) = inr (unwritten word e.act (word_in t past word) is ∙ kept)

    by_party :
        (call_of party past ≡ Some c → IsLook word seen c.own → OtherWroteSinceSight word party past ⊎ (word_in t past word ≡ seen)) →
        (b : Bool) → cond b (call_after e.then e (call_of party past)) (call_of party past) ≡ Some c →
        MatchBool b
        (MatchBool (is_sight word e.act) ⊥ (MatchBool (is_beginning e.act) ⊥ (OtherWroteSinceSight word party past)))
        (MatchBool (is_write word e.act) (Unit {0}) (OtherWroteSinceSight word party past))
        ⊎ (word_after word e.act (word_in t past word) ≡ seen)
    by_party before true is =
        let mine = latest_looks word seen e.then e (call_of party past) c is look in
        inr (unwritten word e.act (word_in t past word) mine.1 ∙ sight_is_told word e.act (word_in t past) seen mine.0 (tells_memory z t parties (e ∷ past) run))
    by_party before false is = by_write (is_write word e.act) refl (before is look)

-- What held at the last sight of a call under way.

-- of a call's own events, the latest sight of the word told this value, and these are the own events before it
abbrev pub LastSaw : {T : Type 0} → Word → ℕ → List (Event T) → List (Event T) → Type 0
LastSaw word seen before [] = ⊥
LastSaw word seen before (e ∷ own) = MatchBool (is_sight word e.act) ((sight_of word e.act ≡ Some seen) × (before ≡ own)) (LastSaw word seen before own)

pub longer :
    {T : Type 0} (outcome : Then T) (e : Event T) (pending : Option (PendingCall T)) (c : PendingCall T) → call_after outcome e pending ≡ Some c →
    (c.own ≡ []) ⊎ ((own : List (Event T)) × (pending ≡ Some (record { call = c.call; own = own })) × (c.own ≡ e ∷ own) × (is_beginning e.act ≡ false))
longer outcome e pending c h1 = grind (arith, nat_tests, eqb-true, eqb-false)

-- what follows of the events before a sight from its value and from the own events before it, held at the last sight
pub at_last_sight :
    {T Q : Type 0} (z : Arithmetic T) (t : Table T Q) (parties : ℕ) (word : Word) (party seen : ℕ) (call : Call T) (before : List (Event T)) (P : List (Event T) → Type 0) →
    ((prefix : List (Event T)) → IsPast z t parties prefix → call_of party prefix ≡ Some (record { call = call; own = before }) → word_in t prefix word ≡ seen → P prefix) →
    (past : List (Event T)) → IsPast z t parties past → (own : List (Event T)) → call_of party past ≡ Some (record { call = call; own = own }) → LastSaw word seen before own → AtLastSight word P party past
at_last_sight z t parties word party seen call before P holds [] run own called saw = absurd cc
at_last_sight {T} {Q} z t parties word party seen call before P holds (e ∷ past) run own called saw =
    by_party (at_last_sight z t parties word party seen call before P holds past run.1) (e.party == party) called
  where
    Goal : Type 0
    Goal = MatchBool (is_sight word e.act) (P past) (MatchBool (is_beginning e.act) ⊥ (AtLastSight word P party past))

    by_sight : (b : Bool) → is_sight word e.act ≡ b → (own_before : List (Event T)) → call_of party past ≡ Some (record { call = call; own = own_before }) →
        ((o : List (Event T)) → call_of party past ≡ Some (record { call = call; own = o }) → LastSaw word seen before o → AtLastSight word P party past) →
        MatchBool b ((sight_of word e.act ≡ Some seen) × (before ≡ own_before)) (LastSaw word seen before own_before) → is_beginning e.act ≡ false → MatchBool b (P past) (MatchBool (is_beginning e.act) ⊥ (AtLastSight word P party past))
    by_sight true is own_before was rest sees goes =
        let told : word_in t past word ≡ seen = sight_is_told word e.act (word_in t past) seen sees.0 (tells_memory z t parties (e ∷ past) run) in
        holds past run.1 (subst (λ (o : List (Event T)). call_of party past ≡ Some (record { call = call; own = o })) (sym sees.1) was) told
    by_sight false is own_before was rest sees goes = rw goes (rest own_before was sees)

    by_own : ((o : List (Event T)) → call_of party past ≡ Some (record { call = call; own = o }) → LastSaw word seen before o → AtLastSight word P party past) →
        (own ≡ []) ⊎ ((o : List (Event T)) × (call_of party past ≡ Some (record { call = call; own = o })) × (own ≡ e ∷ o) × (is_beginning e.act ≡ false)) → Goal
    by_own rest (inl none) = absurd (subst (λ (o : List (Event T)). LastSaw word seen before o) none saw)
    by_own rest (inr more) =
        let sees : LastSaw word seen before (e ∷ more.0) = subst (λ (o : List (Event T)). LastSaw word seen before o) more.2 saw in
        by_sight (is_sight word e.act) refl more.0 more.1 rest sees more.3

    by_party :
        ((o : List (Event T)) → call_of party past ≡ Some (record { call = call; own = o }) → LastSaw word seen before o → AtLastSight word P party past) →
        (b : Bool) → cond b (call_after e.then e (call_of party past)) (call_of party past) ≡ Some (record { call = call; own = own }) → MatchBool b Goal (AtLastSight word P party past)
    by_party rest true is = by_own rest (longer e.then e (call_of party past) (record { call = call; own = own }) is)
    by_party rest false is = rest own is saw
