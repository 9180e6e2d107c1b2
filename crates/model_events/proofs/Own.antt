-- What a call's own events are among all events.
use Rattle.model_events.proofs.Names.{◌≡◌, ◌≢◌, ℕ, ◌≤◌, ◌<◌, ◌==◌, refl, sym, subst, Bool, true, false, cond, List, [], ◌∷◌, Some, ◌⊎◌, inl, inr, arith, MatchBool, eq-eqb, eqb-true, eqb-false, nat_tests, Arithmetic, Table, PendingCall, call_of, word_in, IsPast, AtLast, is_beginning, acts_in, last_of, IsTold, Act, Event}
use Rattle.model_events.proofs.Holds.{some_same, eqb_other}
use Rattle.model_events.proofs.Steps.{tells_memory}

-- What a party has under way after an event: what it had, where the event is another's; else a call that has just begun, or one with this event more.
abbrev pub IsCallAfter : {T : Type 0} → List (Event T) → Event T → ℕ → PendingCall T → Type 0
IsCallAfter {T} past e party c =
    ((e.party ≢ party) × (call_of party past ≡ Some c))
    ⊎ (((e.party ≡ party) × (c.own ≡ []))
    ⊎ ((e.party ≡ party) × ((before : PendingCall T) × (call_of party past ≡ Some before) × (c.own ≡ e ∷ before.own) × (is_beginning e.act ≡ false))))

pub call_was : {T : Type 0} (past : List (Event T)) (e : Event T) (party : ℕ) (c : PendingCall T) → call_of party (e ∷ past) ≡ Some c → IsCallAfter past e party c
call_was past e party c h1 = grind (arith, nat_tests, eqb-true, eqb-false)

-- there are no more acts of a kind in a call than in all
pub own_among :
    {T : Type 0} (is_it : Act T → Bool) (past : List (Event T)) (party : ℕ) (c : PendingCall T) → call_of party past ≡ Some c → acts_in is_it c.own ≤ acts_in is_it past
own_among is_it [] party c called = absurd cc
own_among {T} is_it (e ∷ past) party c called = by_event (own_among is_it past party) (call_was past e party c called)
  where
    by_event : ((k : PendingCall T) → call_of party past ≡ Some k → acts_in is_it k.own ≤ acts_in is_it past) → IsCallAfter past e party c → acts_in is_it c.own ≤ acts_in is_it (e ∷ past)
    by_event rest (inl other) = omega (arith, rest c other.1)
    by_event rest (inr (inl begun)) = rw begun.1 (omega arith)
    by_event rest (inr (inr on)) = rw on.1.2 (omega (arith, rest on.1.0 on.1.1))

pub at_last_maps : {T : Type 0} (is_it : Act T → Bool) (P Q : List (Event T) → Type 0) → ((before : List (Event T)) → P before → Q before) → (party : ℕ) (past : List (Event T)) → AtLast is_it P party past → AtLast is_it Q party past
at_last_maps is_it P Q maps party [] at = at
at_last_maps {T} is_it P Q maps party (e ∷ past) at = by_test (e.party == party) (is_it e.act) (is_beginning e.act) (at_last_maps is_it P Q maps party past) at
  where
    Told : (List (Event T) → Type 0) → Bool → Bool → Bool → Type 0
    Told R mine it begins = MatchBool mine (MatchBool it (R past) (MatchBool begins ⊥ (AtLast is_it R party past))) (AtLast is_it R party past)

    by_test : (mine it begins : Bool) → (AtLast is_it P party past → AtLast is_it Q party past) → Told P mine it begins → Told Q mine it begins
    by_test false it begins rest at = rest at
    by_test true true begins rest at = maps past at
    by_test true false true rest at = at
    by_test true false false rest at = rest at

-- What a call's latest act of a kind told, the memory held before it: a run of which fewer such acts are a part.
abbrev pub IsToldOf : {T P : Type 0} → Arithmetic T → Table T P → ℕ → (Act T → Bool) → Act T → List (Event T) → List (Event T) → Type 0
IsToldOf z t parties is_it act past before = IsPast z t parties before × IsTold act (word_in t before) × (acts_in is_it before < acts_in is_it past)

pub own_at_last :
    {T P : Type 0} (z : Arithmetic T) (t : Table T P) (parties : ℕ) (is_it : Act T → Bool) (party : ℕ) (act : Act T) (past : List (Event T)) → IsPast z t parties past →
    (c : PendingCall T) → call_of party past ≡ Some c → last_of is_it c.own ≡ Some act → AtLast is_it (IsToldOf z t parties is_it act past) party past
own_at_last z t parties is_it party act [] run c called last = absurd cc
own_at_last {T} {P} z t parties is_it party act (e ∷ past) run c called last = by_event (own_at_last z t parties is_it party act past run.1) (call_was past e party c called)
  where
    onward : AtLast is_it (IsToldOf z t parties is_it act past) party past → AtLast is_it (IsToldOf z t parties is_it act (e ∷ past)) party past
    onward at = at_last_maps is_it (IsToldOf z t parties is_it act past) (IsToldOf z t parties is_it act (e ∷ past)) (λ before h. (h.0, h.1, omega (arith, h.2))) party past at

    mine : e.party ≡ party → (b : PendingCall T) → is_beginning e.act ≡ false → (last_of is_it b.own ≡ Some act → AtLast is_it (IsToldOf z t parties is_it act past) party past) → (it : Bool) → is_it e.act ≡ it →
        cond it (Some e.act) (last_of is_it b.own) ≡ Some act → AtLast is_it (IsToldOf z t parties is_it act (e ∷ past)) party (e ∷ past)
    mine own b quiet rest true it is =
        let told : IsTold act (word_in t past) = subst (λ (a : Act T). IsTold a (word_in t past)) (some_same e.act act is) (tells_memory z t parties (e ∷ past) run) in
        rw (eq-eqb e.party party own, it) (run.1, told, omega arith)
    mine own b quiet rest false it is = rw (eq-eqb e.party party own, it, quiet) (onward (rest is))

    by_event : ((k : PendingCall T) → call_of party past ≡ Some k → last_of is_it k.own ≡ Some act → AtLast is_it (IsToldOf z t parties is_it act past) party past) → IsCallAfter past e party c →
        AtLast is_it (IsToldOf z t parties is_it act (e ∷ past)) party (e ∷ past)
    by_event rest (inl other) = rw (eqb_other e.party party (λ is. other.0 (sym is))) (onward (rest c other.1 last))
    by_event rest (inr (inl begun)) = let no : last_of is_it [] ≡ Some act = subst (λ (own : List (Event T)). last_of is_it own ≡ Some act) begun.1 last in absurd cc
    by_event rest (inr (inr on)) =
        let latest : last_of is_it (e ∷ on.1.0.own) ≡ Some act = subst (λ (own : List (Event T)). last_of is_it own ≡ Some act) on.1.2 last in
        mine on.0 on.1.0 on.1.3 (rest on.1.0 on.1.1) (is_it e.act) refl latest
