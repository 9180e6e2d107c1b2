-- The acts of a run: what they leave in the register, and which act the step at a place is.
use Rattle.model_atomic.proofs.Names.{arith, nat_tests, eqb-true, eqb-false, ◌≡◌, ℕ, refl, sym, ◌∙◌, ap, subst, true, cond, List, [], ◌∷◌, ◌++◌, Option, Some, None, ◌⊎◌, fault_at_none, by_move, MatchOption, Word, Call, Act, Answer, Event, Then, Arithmetic, IsValue, IsClosed, PendingCall, call_of, word_in, latest_outcome, go_fault, stage_of, IsPast, AtomicPlace, RegisterAct, plain, update, value_after, after_acts, choice_of, choice_for, low_told, ends_at_look, acted, act_by, acts_at, acts_of_run, register_after, is_data_access, atomic_table}
use Rattle.model_atomic.proofs.Places.{HasSome, here}
use Rattle.model_atomic.proofs.Data.{Will, keeps, goes_free}

-- The register is what the acts leave.

after_more : {T : Type 0} (z : Arithmetic T) (v : T) (l m : List (RegisterAct T)) → after_acts z v (l ++ m) ≡ after_acts z (after_acts z v l) m
after_more z v [] m = refl
after_more z v (a ∷ l) m = after_more z (value_after z a v) l m

after_event : {T : Type 0} (z : Arithmetic T) (k : Option (PendingCall T)) (act : Act T) (old : T) → after_acts z old (acts_at z k act) ≡ acted z k act old
after_event z k act old = grind (arith, nat_tests, eqb-true, eqb-false)

-- after a run the register is what the acts of the run make of it
pub register_by_acts : {T : Type 0} (z : Arithmetic T) (v : T) (past : List (Event T)) → after_acts z v (acts_of_run z past) ≡ register_after z v past
register_by_acts z v [] = refl
register_by_acts z v (e ∷ past) =
    after_more z v (acts_of_run z past) (acts_at z (call_of e.party past) e.act)
    ∙ after_event z (call_of e.party past) e.act (after_acts z v (acts_of_run z past))
    ∙ ap (acted z (call_of e.party past) e.act) (register_by_acts z v past)

-- The act at a place.

module _ {T : Type 0} (z : Arithmetic T) (v : T) (parties : ℕ) (past : List (Event T)) (e : Event T) (c : PendingCall T) (under_way : call_of e.party past ≡ Some c) where
  at_event : (act : Act T) → e.act ≡ act → acts_at z (call_of e.party past) e.act ≡ acts_at z (Some c) act
  at_event act is = λ i. acts_at z (under_way i) (is i)

  -- the put of the high word is the act of the call
  pub puts_at : (put : ℕ) → e.act ≡ Act.Store Word.High put → acts_at z (call_of e.party past) e.act ≡ act_by c ∷ []
  puts_at put is = at_event (Act.Store Word.High put) is

  none_asked : (call : Call T) → choice_for call None ≡ None
  none_asked call = grind (arith, nat_tests, eqb-true, eqb-false)

  -- the load of the high word is, where the call then stores nothing
  pub looks_at : IsPast z (atomic_table z v) parties past → (call : Call T) (low found : ℕ) → c.call ≡ call → stage_of (atomic_table z v) c ≡ Some (AtomicPlace.High call low) → e.act ≡ Act.Load Word.High found →
      acts_at z (call_of e.party past) e.act ≡ cond (ends_at_look z call None (z.of_words low found)) (plain call ∷ []) []
  looks_at run call low found called stage is =
      let at = here z v parties past run e.party c (AtomicPlace.High call low) under_way stage in
      at_event (Act.Load Word.High found) is
      ∙ (λ i. cond (ends_at_look z (called i) (at.3.unchosen i) (z.of_words (at.4 i) found)) (record { call = called i; choice = choice_for (called i) (at.3.unchosen i) } ∷ []) [])
      ∙ ap (λ (choice : Option (Option T)). cond (ends_at_look z call None (z.of_words low found)) (record { call = call; choice = choice } ∷ []) []) (none_asked call)

  goes : IsPast z (atomic_table z v) parties (e ∷ past) → is_data_access e.act ≡ true → MatchOption (call_of e.party past) ⊥ (λ k. go_fault (latest_outcome k.own) ≡ None)
  goes h1 h2 = grind (arith, nat_tests, eqb-true, eqb-false, by_move, fault_at_none, goes_free)

  -- so is the second one, of a `FetchUpdate` that was given no choice
  pub again_at : IsPast z (atomic_table z v) parties (e ∷ past) → (old : T) (found : ℕ) → c.call ≡ Call.FetchUpdate → stage_of (atomic_table z v) c ≡ Some (AtomicPlace.Again old) → e.act ≡ Act.Load Word.High found →
      acts_at z (call_of e.party past) e.act ≡ update None ∷ []
  again_at run old found called stage is =
      at_event (Act.Load Word.High found) is ∙ (λ i. cond (ends_at_look z (called i) (chose i) (z.of_words (low_told c.own) found)) (record { call = called i; choice = choice_for (called i) (chose i) } ∷ []) [])
    where
      free : go_fault (latest_outcome c.own) ≡ None
      free = subst (λ (k : Option (PendingCall T)). MatchOption k ⊥ (λ own. go_fault (latest_outcome own.own) ≡ None)) under_way (goes run (subst (λ (a : Act T). is_data_access a ≡ true) (sym is) refl))

      by_choice : ((latest_outcome c.own ≡ Then.Chooses old) × (choice_of c.own ≡ None)) ⊎ ((latest_outcome c.own ≡ Then.GoesOn) × (choice_of c.own ≡ Some None)) → choice_of c.own ≡ Some None
      by_choice h1 = grind (arith, nat_tests, eqb-true, eqb-false, free)

      chose : choice_of c.own ≡ Some None
      chose = by_choice (here z v parties past run.1 e.party c (AtomicPlace.Again old) under_way stage).1.chooses

  -- what a `FetchUpdate` puts is what its closure chose
  pub put_is_chosen : IsClosed z → IsValue z v → IsPast z (atomic_table z v) parties past → (high : ℕ) (answer : Answer T) → c.call ≡ Call.FetchUpdate → stage_of (atomic_table z v) c ≡ Some (AtomicPlace.PutHigh high answer) →
      choice_of c.own ≡ Some (Some (z.of_words (word_in (atomic_table z v) past Word.Low) high))
  put_is_chosen closed value run high answer called stage = by_choice (choice_of c.own) refl some
    where
      old : T
      old = register_after z v past

      low : ℕ
      low = word_in (atomic_table z v) past Word.Low

      will : Will z old c low high answer
      will = (keeps z closed v parties past value run).each e.party c (AtomicPlace.PutHigh high answer) under_way stage

      some : HasSome Call.FetchUpdate (choice_of c.own)
      some = subst (λ (k : Call T). HasSome k (choice_of c.own)) called (here z v parties past run e.party c (AtomicPlace.PutHigh high answer) under_way stage).chose

      new_is : z.of_words low high ≡ will.new
      new_is = (λ i. z.of_words (will.low_is i) (will.high_is i)) ∙ will.is_value

      by_choice : (choice : Option (Option T)) → choice_of c.own ≡ choice → HasSome Call.FetchUpdate choice → choice ≡ Some (Some (z.of_words low high))
      by_choice choice h1 h2 = grind (arith, nat_tests, eqb-true, eqb-false, new_is, will)
