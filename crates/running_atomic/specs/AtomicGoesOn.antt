-- What the passes of an atomic count and know follows the run.
use Rattle.std.specs.Prelude.{is_some, ◌≡◌, ℕ, ◌+◌, ◌-◌, ◌%◌, ◌^◌, ◌<◌, ◌==◌, Bool, true, false, cond, List, [], ◌∷◌, ◌++◌, Option, Some, None}
use Rattle.running_atomic.specs.Names.{HoldKind, Word, Call, Answer, Act, Event, Arithmetic, IsValue, IsClosed, PendingCall, call_of, hold_of, word_in, word_after, stage_of, CallValues, IsPast, carried_out, AtomicPlace, atomic_table, atomic_intent, atomic_grant, release, RegisterAct, Outcome, plain, update, act_of, acted, value_after, after_acts, choice_of, choice_for, act_by, acts_at, acts_of_run, answer_of, is_last, ends_at_look, register_after, Held, Free, both_held, Locks, IsOnNoWord, on_no_word, StaysOnNoWord, SameOnNoWord, GoesOnByActs, refl, sym, ap, subst, ◌∙◌, arith, eqb-true, eqb-false, ne_eqb, nat_tests, append-nil, IsKeptFromRest, Whatever, at_place_from_rest, puts_at, looks_at, again_at, put_is_chosen, register_by_acts, Will, DataAt, data_at, keeps, AtAtomic, here, AtomicTally, Content, AtomicAct, Heard}
use Rattle.running_atomic.specs.History.{both_heard, both_tallies, no_acts, same_content}
use Rattle.running_atomic.specs.AtomicModel.{atomic_model}
use Rattle.running_atomic.specs.AtomicRule.{value_of, act_in, acts_in, written, all_written, history_of_run, known, each_once, register_of, IsReading, IsWriting, IsSettled, data_in, put_low, put_high, held_after, looked_at, stored, acted_by, heard_after, tally_after, tally_needs, IsRegister}
use Rattle.running_atomic.specs.HistoryKeeps.{grows, grows_own, acts_append}

-- The hold.

module _ {T : Type 0} (z : Arithmetic T) where
  -- the lock's word counts these holds, which know the data words, and this is the register
  abbrev pub IsLocked : (Word → ℕ) → T → Held Content → Type 0
  IsLocked memory value h = Locks (memory Word.State) (data_in memory) h × (value_of z (register_of h (data_in memory)) ≡ value)

  abbrev after : Act T → (Word → ℕ) → Word → ℕ
  after act memory = λ w. word_after w act (memory w)

  abbrev with : Held Content → Held Content → Held Content
  with = both_held same_content

  -- it is, before an act
  module _ (memory : Word → ℕ) (value : T) (rest : Held Content) where
    abbrev d : Content
    d = data_in memory

    abbrev n : ℕ
    n = memory Word.State

    takes : (from to : ℕ) (h : Held Content) → n ≡ from → h ≡ Free → (to == 2 ^ 64 - 1) ≡ false → to ≡ from + 1 → from < 2 ^ 64 - 2 → IsLocked memory value (with h rest) →
        IsLocked (after (Act.Exchange Word.State from to n true) memory) value (with (held_after {T = T} d (Act.Exchange Word.State from to n true) h) rest)
    takes from to h h1 h2 h3 h4 h5 h6 = grind (arith, nat_tests, eqb-true, eqb-false)

    takes_all : (h : Held Content) → n ≡ 0 → h ≡ Free → IsLocked memory value (with h rest) →
        IsLocked (after (Act.Exchange Word.State 0 (2 ^ 64 - 1) n true) memory) value (with (held_after {T = T} d (Act.Exchange Word.State 0 (2 ^ 64 - 1) n true) h) rest)
    takes_all h h1 h2 h3 = grind (arith, nat_tests, eqb-true, eqb-false)

    lets_read : (h : Held Content) → IsReading h → IsLocked memory value (with h rest) → IsLocked (after (Act.Add Word.State n ((n + (2 ^ 64 - 1)) % 2 ^ 64)) memory) value rest
    lets_read h h1 h2 = grind (arith, nat_tests, eqb-true, eqb-false)

    lets_write : (h : Held Content) → IsSettled h → IsLocked memory value (with h rest) → IsLocked (after (Act.Store Word.State 0) memory) value rest
    lets_write h h1 h2 = grind (arith, nat_tests, eqb-true, eqb-false)

    stores_low : (low : ℕ) (h : Held Content) → IsWriting h → IsLocked memory value (with h rest) → IsLocked (after (Act.Store Word.Low low) memory) value (with (put_low low h) rest)
    stores_low low h h1 h2 = grind (arith, nat_tests, eqb-true, eqb-false)

    stores_high : (high : ℕ) (h : Held Content) → IsWriting h → IsLocked memory value (with h rest) → IsLocked (after (Act.Store Word.High high) memory) (z.of_words (memory Word.Low) high) (with (put_high high h) rest)
    stores_high high h h1 h2 = grind (arith, nat_tests, eqb-true, eqb-false)

  another_value : (memory : Word → ℕ) (v w : T) (h : Held Content) → w ≡ v → IsLocked memory v h → IsLocked memory w h
  another_value memory v w h same is = (is.0, is.1 ∙ sym same)

  -- The history.

  module _ (past : List (Event T)) where
    abbrev pub IsHeard : List (RegisterAct T) → Heard → Type 0
    IsHeard acts t = (t.seen ≡ known (all_written z acts)) × (t.own ≡ each_once (all_written z acts)) × (acts_in z (all_written z acts) ≡ acts)

    written_more : (l m : List (RegisterAct T)) → all_written z (l ++ m) ≡ all_written z l ++ all_written z m
    written_more [] m = refl
    written_more (a ∷ l) m = ap (λ (h : List AtomicAct). written z a ∷ h) (written_more l m)

    abbrev listed : Option (RegisterAct T) → List (RegisterAct T)
    listed None = []
    listed (Some a) = a ∷ []

    abbrev MadeIsWritten : Option (RegisterAct T) → Type 0
    MadeIsWritten None = Unit {0}
    MadeIsWritten (Some a) = act_in z (written z a) ≡ a

    hears : (made : Option (RegisterAct T)) (t rest : Heard) → MadeIsWritten made → IsHeard (acts_of_run z past) (both_heard t rest) → IsHeard (acts_of_run z past ++ listed made) (both_heard (heard_after z (history_of_run z past) made t) rest)
    hears made t rest h1 h2 = grind (arith, nat_tests, eqb-true, eqb-false, acts_append, append-nil, grows, grows_own, written_more)

-- The values of a call under way are values of its type, and it takes the lock.

abbrev HasValues : {T : Type 0} → Arithmetic T → AtomicPlace T → PendingCall T → Option HoldKind → Type 0
HasValues z place c hold = CallValues z c.call × (is_some (atomic_grant c.call) ≡ true)

values_kept : {T : Type 0} (z : Arithmetic T) (v : T) → IsKeptFromRest z (atomic_table z v) Whatever (HasValues z)
values_kept z v = grind (arith, nat_tests, eqb-true, eqb-false)

module _ {T : Type 0} (z : Arithmetic T) where
  -- so an act in words is that act

  looked_is_written : (call : Call T) (old : T) → CallValues z call → is_some (atomic_grant call) ≡ true → ends_at_look z call None old ≡ true → act_in z (written z (plain call)) ≡ plain call
  looked_is_written call old h1 h2 h3 = grind (arith, nat_tests, eqb-true, eqb-false)

  stored_is_written : (call : Call T) (new : T) → CallValues z call → is_some (atomic_grant call) ≡ true → IsValue z new → act_in z (written z (stored z call new)) ≡ stored z call new
  stored_is_written call new h1 h2 h3 = grind (arith, nat_tests, eqb-true, eqb-false)

  -- and the act of a call that stores is this
  stored_so : (call : Call T) (choice : Option (Option T)) (new : T) → (call ≡ Call.FetchUpdate → choice ≡ Some (Some new)) → record { call = call; choice = choice_for call choice } ≡ stored z call new
  stored_so call choice new h1 = grind (arith, nat_tests, eqb-true, eqb-false)

  -- a load leaves the register as it is, also where it is an act
  look_same : (call : Call T) (old : T) → cond (ends_at_look z call None old) (act_of z call None old).1 old ≡ old
  look_same call old = grind (arith, nat_tests, eqb-true, eqb-false)

after_more : {T : Type 0} (z : Arithmetic T) (v : T) (l m : List (RegisterAct T)) → after_acts z v (l ++ m) ≡ after_acts z (after_acts z v l) m
after_more z v [] m = refl
after_more z v (a ∷ l) m = after_more z (value_after z a v) l m

-- Each step, by its place.

module _ {T : Type 0} (z : Arithmetic T) (k : T) (parties : ℕ) (past : List (Event T)) (e : Event T) (c : PendingCall T) (run : IsPast z (atomic_table z k) parties past) (under_way : call_of e.party past ≡ Some c) (t rest : AtomicTally)
    (is : IsRegister z k past (both_tallies t rest)) where
  abbrev memory : Word → ℕ
  memory = word_in (atomic_table z k) past

  abbrev value : T
  value = register_after z k past

  locked : IsLocked z memory value (both_held same_content t.hold rest.hold)
  locked = (is.locks, is.value_is)

  -- what it does to the hold and to the history
  abbrev Follows : AtomicPlace T → Call T → Act T → Type 0
  Follows place call act =
      tally_needs act t → IsLocked z (after z act memory) (acted z (call_of e.party past) act value) (both_held same_content (held_after (data_in memory) act t.hold) rest.hold)
      × IsHeard z past (acts_of_run z past ++ acts_at z (call_of e.party past) act) (both_heard (heard_after z (history_of_run z past) (acted_by z (memory Word.Low) act place call) t.heard) rest.heard)

  heard_so : (made : Option (RegisterAct T)) (acts : List (RegisterAct T)) → acts ≡ listed z past made → MadeIsWritten z past made → IsHeard z past (acts_of_run z past ++ acts) (both_heard (heard_after z (history_of_run z past) made t.heard) rest.heard)
  heard_so made acts same valid = subst (λ (l : List (RegisterAct T)). IsHeard z past (acts_of_run z past ++ l) (both_heard (heard_after z (history_of_run z past) made t.heard) rest.heard)) (sym same) (hears z past made t.heard rest.heard valid (is.seen, is.own, is.acts_are))

  -- on the lock's word, and the store of the low word: no act
  module _ (act : Act T) where
    not_acted : ((d : PendingCall T) → (acted z (Some d) act value ≡ value) × (acts_at z (Some d) act ≡ [])) → (acted z (call_of e.party past) act value ≡ value) × (acts_at z (call_of e.party past) act ≡ [])
    not_acted so = let there = so c in (ap (λ (j : Option (PendingCall T)). acted z j act value) under_way ∙ there.0, ap (λ (j : Option (PendingCall T)). acts_at z j act) under_way ∙ there.1)

  nothing : (act : Act T) (h : Held Content) → ((d : PendingCall T) → (acted z (Some d) act value ≡ value) × (acts_at z (Some d) act ≡ [])) → IsLocked z (after z act memory) value (both_held same_content h rest.hold) →
      IsLocked z (after z act memory) (acted z (call_of e.party past) act value) (both_held same_content h rest.hold) × IsHeard z past (acts_of_run z past ++ acts_at z (call_of e.party past) act) (both_heard t.heard rest.heard)
  nothing act h so there = let none = not_acted act so in (another_value z (after z act memory) value (acted z (call_of e.party past) act value) (both_held same_content h rest.hold) none.0 there, heard_so None (acts_at z (call_of e.party past) act) none.1 tt)

  enters : (seen to : ℕ) (place : AtomicPlace T) (call : Call T) (b : Bool) → (memory Word.State == seen) ≡ b → to ≡ seen + 1 → seen < 2 ^ 64 - 2 → Follows place call (Act.Exchange Word.State seen to (memory Word.State) b)
  enters seen to place call false test next room free = nothing (Act.Exchange Word.State seen to (memory Word.State) false) t.hold (λ d. (refl, refl)) locked
  enters seen to place call true test next room free =
      nothing (Act.Exchange Word.State seen to (memory Word.State) true) (held_after {T = T} (data_in memory) (Act.Exchange Word.State seen to (memory Word.State) true) t.hold) (λ d. (refl, refl))
      (takes z memory value rest.hold seen to t.hold (eqb-true _ _ test) free (ne_eqb to (2 ^ 64 - 1) (λ full. omega (arith, full, next, room))) next room locked)

  enters_alone : (place : AtomicPlace T) (call : Call T) (b : Bool) → (memory Word.State == 0) ≡ b → Follows place call (Act.Exchange Word.State 0 (2 ^ 64 - 1) (memory Word.State) b)
  enters_alone place call false test free = nothing (Act.Exchange Word.State 0 (2 ^ 64 - 1) (memory Word.State) false) t.hold (λ d. (refl, refl)) locked
  enters_alone place call true test free =
      nothing (Act.Exchange Word.State 0 (2 ^ 64 - 1) (memory Word.State) true) (held_after {T = T} (data_in memory) (Act.Exchange Word.State 0 (2 ^ 64 - 1) (memory Word.State) true) t.hold) (λ d. (refl, refl))
      (takes_all z memory value rest.hold t.hold (eqb-true _ _ test) free locked)

  leaves : (place : AtomicPlace T) (call : Call T) (hold : Option HoldKind) → Follows place call (carried_out (release Word.State hold) memory)
  leaves place call (Some HoldKind.Read) on = nothing (Act.Add Word.State (memory Word.State) ((memory Word.State + (2 ^ 64 - 1)) % 2 ^ 64)) Free (λ d. (refl, refl)) (lets_read z memory value rest.hold t.hold on locked)
  leaves place call (Some HoldKind.Write) on = nothing (Act.Store Word.State 0) Free (λ d. (refl, refl)) (lets_write z memory value rest.hold t.hold on locked)
  leaves place call None on = nothing (Act.Store Word.State 0) Free (λ d. (refl, refl)) (lets_write z memory value rest.hold t.hold on locked)

  -- what the register is then, by the acts that an event is
  acted_lists : acted z (call_of e.party past) e.act value ≡ after_acts z value (acts_at z (call_of e.party past) e.act)
  acted_lists = sym (register_by_acts z k (e ∷ past)) ∙ after_more z k (acts_of_run z past) (acts_at z (call_of e.party past) e.act) ∙ ap (λ (v : T). after_acts z v (acts_at z (call_of e.party past) e.act)) (register_by_acts z k past)

  -- a load of the high word
  looks : (place : AtomicPlace T) (call : Call T) (found : ℕ) (made : Option (RegisterAct T)) → e.act ≡ Act.Load Word.High found → looked_at z place found ≡ made → acts_at z (call_of e.party past) e.act ≡ listed z past made → MadeIsWritten z past made →
      after_acts z value (listed z past made) ≡ value → Follows place call (Act.Load Word.High found)
  looks place call found made act there acts valid same needs =
      let now : acts_at z (call_of e.party past) (Act.Load Word.High found) ≡ listed z past made = ap (acts_at z (call_of e.party past)) (sym act) ∙ acts in (
        another_value z memory value _ (both_held same_content t.hold rest.hold) (ap (λ (a : Act T). acted z (call_of e.party past) a value) (sym act) ∙ acted_lists ∙ ap (after_acts z value) acts ∙ same) locked,
        subst (λ (m : Option (RegisterAct T)). IsHeard z past (acts_of_run z past ++ acts_at z (call_of e.party past) (Act.Load Word.High found)) (both_heard (heard_after z (history_of_run z past) m t.heard) rest.heard)) (sym there) (heard_so made _ now valid),
      )

  looks_high : (call acting : Call T) (low found : ℕ) (b : Bool) → ends_at_look z call None (z.of_words low found) ≡ b → e.act ≡ Act.Load Word.High found → c.call ≡ call → CallValues z call → is_some (atomic_grant call) ≡ true → stage_of (atomic_table z k) c ≡ Some (AtomicPlace.High call low) →
      value ≡ z.of_words low found → Follows (AtomicPlace.High call low) acting (Act.Load Word.High found)
  looks_high call acting low found true ends act called values takes stage old =
      looks (AtomicPlace.High call low) acting found (Some (plain call)) act (ap (λ (b : Bool). cond b (Some (plain call)) None) ends)
      (looks_at z k parties past e c under_way run call low found called stage act ∙ ap (λ (b : Bool). cond b (plain call ∷ []) []) ends) (looked_is_written z call _ values takes ends)
      (ap (value_after z (plain call)) old ∙ sym (ap (λ (b : Bool). cond b (value_after z (plain call) (z.of_words low found)) (z.of_words low found)) ends) ∙ look_same z call (z.of_words low found) ∙ sym old)
  looks_high call acting low found false ends act called values takes stage old =
      looks (AtomicPlace.High call low) acting found None act (ap (λ (b : Bool). cond b (Some (plain call)) None) ends)
      (looks_at z k parties past e c under_way run call low found called stage act ∙ ap (λ (b : Bool). cond b (plain call ∷ []) []) ends) tt refl

  -- the store of it
  stores : (high : ℕ) (answer : Answer T) (call : Call T) → e.act ≡ Act.Store Word.High high → c.call ≡ call → CallValues z c.call → is_some (atomic_grant c.call) ≡ true → stage_of (atomic_table z k) c ≡ Some (AtomicPlace.PutHigh high answer) →
      Will z value c (memory Word.Low) high answer → Follows (AtomicPlace.PutHigh high answer) call (Act.Store Word.High high)
  stores high answer call act called values takes stage will on =
      let new : T = z.of_words (memory Word.Low) high in
      let new_is : new ≡ will.new = (λ i. z.of_words (will.low_is i) (will.high_is i)) ∙ will.is_value in
      let made : act_by c ≡ stored z c.call new = stored_so z c.call (choice_of c.own) new (λ update. put_is_chosen z k parties past e c under_way is.closed is.opening_is run high answer update stage) in
      let acts : acts_at z (call_of e.party past) (Act.Store Word.High high) ≡ stored z call new ∷ [] =
      ap (acts_at z (call_of e.party past)) (sym act) ∙ puts_at z k parties past e c under_way high act ∙ ap (λ (a : RegisterAct T). a ∷ []) (made ∙ ap (λ (o : Call T). stored z o new) called) in (
        another_value z (after z (Act.Store Word.High high) memory) new _ (both_held same_content (put_high high t.hold) rest.hold)
            (ap (λ (j : Option (PendingCall T)). acted z j (Act.Store Word.High high) value) under_way ∙ ap (λ (o : Outcome T). o.1) will.act_is ∙ sym new_is) (stores_high z memory value rest.hold high t.hold on locked),
        heard_so (Some (stored z call new)) _ acts (subst (λ (o : Call T). act_in z (written z (stored z o new)) ≡ stored z o new) called (stored_is_written z c.call new values takes (subst (IsValue z) (sym new_is) will.is_value))),
      )

  goes : (place : AtomicPlace T) (call : Call T) (hold had : Option HoldKind) → c.call ≡ call → AtAtomic z place c had → HasValues z place c had → DataAt z (data_at z k past) (answer_of z k e.party past) place c → stage_of (atomic_table z k) c ≡ Some place →
      IsPast z (atomic_table z k) parties (e ∷ past) → e.act ≡ carried_out (atomic_intent place hold) memory → Follows place call (carried_out (atomic_intent place hold) memory)
  goes AtomicPlace.Look call hold had called at values there stage all act = λ needs. nothing (Act.Load Word.State (memory Word.State)) t.hold (λ d. (refl, refl)) locked
  goes (AtomicPlace.Enter seen to) call hold had called at values there stage all act = enters seen to (AtomicPlace.Enter seen to) call (memory Word.State == seen) refl at.2.0 at.2.1
  goes (AtomicPlace.Take taking) call hold had called at values there stage all act = enters_alone (AtomicPlace.Take taking) call (memory Word.State == 0) refl
  goes (AtomicPlace.Low reading) call hold had called at values there stage all act = λ needs. nothing (Act.Load Word.Low (memory Word.Low)) t.hold (λ d. (refl, refl)) locked
  goes (AtomicPlace.High reading low) call hold had called at values there stage all act =
      looks_high reading call low (memory Word.High) (ends_at_look z reading None (z.of_words low (memory Word.High))) refl act at.0 (subst (CallValues z) at.0 values.0) (subst (λ (o : Call T). is_some (atomic_grant o) ≡ true) at.0 values.1) stage (sym there.0 ∙ ap (λ (m : ℕ). z.of_words m (memory Word.High)) there.1)
  goes (AtomicPlace.Again old) call hold had called at values there stage all act =
      looks (AtomicPlace.Again old) call (memory Word.High) (Some (update None)) act refl (again_at z k parties past e c under_way all old (memory Word.High) at.0 stage act) refl refl
  goes (AtomicPlace.PutLow low high answer) call hold had called at values there stage all act = λ on. nothing (Act.Store Word.Low low) (put_low low t.hold) (λ d. (refl, refl)) (stores_low z memory value rest.hold low t.hold on locked)
  goes (AtomicPlace.PutHigh high answer) call hold had called at values there stage all act = stores high answer call act called values.0 values.1 stage there
  goes (AtomicPlace.Leave answer) call hold had called at values there stage all act = leaves (AtomicPlace.Leave answer) call hold

pub register_goes_on : {T : Type 0} (z : Arithmetic T) (k : T) → GoesOnByActs (atomic_model z k) both_tallies (IsRegister z k) (tally_after z k) tally_needs
register_goes_on {T} z k call place hold past e found step t rest needs is =
    let act = step.act ∙ step.found_is in
    let run = step.run.1 in
    let had : Option HoldKind = hold_of (atomic_table z k) e.party past in
    let made = subst (Follows z k step.parties past e step.pending run step.under_way t rest is place call) (sym act)
    (goes z k step.parties past e step.pending run step.under_way t rest is place call hold had step.called (here z k step.parties past run e.party step.pending place step.under_way step.stage)
    (at_place_from_rest z (atomic_table z k) Whatever (HasValues z) (values_kept z k) step.parties tt past run e.party step.pending place step.under_way step.stage)
    ((keeps z is.closed k step.parties past is.opening_is run).each e.party step.pending place step.under_way step.stage) step.stage step.run act) needs in
    record { closed = is.closed; opening_is = is.opening_is; locks = made.0.0; value_is = made.0.1; seen = made.1.0; own = made.1.1; acts_are = made.1.2 }

-- Before the first act, and after acts on no word.

module _ {T : Type 0} (z : Arithmetic T) (k : T) where
  pub register_opens : IsClosed z × IsValue z k → IsRegister z k [] no_acts
  register_opens rule = record { closed = rule.0; opening_is = rule.1; locks = record { word_is = refl; room = omega arith; knows = tt }; value_is = rule.1; seen = refl; own = refl; acts_are = refl }

  abbrev IsQuiet : Act T → Type 0
  IsQuiet act = ((w : Word) (n : ℕ) → word_after w act n ≡ n) × ((c : PendingCall T) → is_last z c act ≡ false)

  quiet : (act : Act T) → IsOnNoWord act → IsQuiet act
  quiet = on_no_word IsQuiet (λ call. (λ w n. refl, λ c. refl)) (λ action. (λ w n. refl, λ c. refl)) (λ choice. (λ w n. refl, λ c. refl)) (λ wake. (λ w n. refl, λ c. refl)) (λ w n. refl, λ c. refl) (λ value. (λ w n. refl, λ c. refl))

  not_last : (j : Option (PendingCall T)) (act : Act T) (v : T) → IsQuiet act → (acted z j act v ≡ v) × (acts_at z j act ≡ [])
  not_last j act v h1 = grind (arith, nat_tests, eqb-true, eqb-false)

  module _ (past : List (Event T)) (e : Event T) (silent : IsOnNoWord e.act) where
    none : IsQuiet e.act
    none = quiet e.act silent

    same_memory : word_in (atomic_table z k) (e ∷ past) ≡ word_in (atomic_table z k) past
    same_memory = λ i. λ w. none.0 w (word_in (atomic_table z k) past w) i

    same_acts : acts_of_run z (e ∷ past) ≡ acts_of_run z past
    same_acts = ap (λ (l : List (RegisterAct T)). acts_of_run z past ++ l) (not_last (call_of e.party past) e.act k none).1 ∙ append-nil (acts_of_run z past)

  pub register_stays : StaysOnNoWord (IsRegister z k)
  register_stays = grind (arith, nat_tests, eqb-true, eqb-false, another_value, locked, none, not_last, same_acts, same_memory)

  pub register_same : SameOnNoWord (tally_after z k)
  register_same = grind (arith, nat_tests, eqb-true, eqb-false, same_acts, same_memory)
