-- A reader-preferring lock keeps its law at every prefix of every run.
use Rattle.model_rw_reader.proofs.Names.{◌≡◌, ℕ, ◌+◌, ◌-◌, ◌^◌, ◌<◌, ◌≤◌, ◌==◌, refl, sym, ◌∙◌, subst, Bool, true, false, cond, is_some, List, [], ◌∷◌, Option, Some, None, ◌⊎◌, ◌↔◌, arith, eqb-true, eqb-false, nat_tests, by_move, refused_asks, IsKept, at_place, eqb_same, HasSpun, refused_because, IsLook, kept_or_written, MatchBool, MatchOption, Word, Call, Act, Answer, Event, Then, HoldKind, Patience, After, Arithmetic, outcome_of, within, refused, same_word, PendingCall, call_of, holds_of, hold_of, word_in, latest_outcome, event, Move, step_at, is_step, IsPast, sight_of, is_sight, keeps_asking, HasAborted, OtherWroteSinceSight, spins_in, WhereAsked, Lacks, is_refusal, RwReaderPlace, lets_readers_in, read_look, rw_reader_table, CountsHolds, RwReaderCause, is_in_vain, lock_spins, steps_in_vain}
use Rattle.model_rw_reader.proofs.ReaderLocks.{IsReaderLock, IsReaderIntent, reader_lock_word, free_exactly, held_at}

-- What is kept of a call at its place.

-- a reader enters from the value seen, where one may
abbrev pub Enters : ℕ → ℕ → Type 0
Enters seen to = (to ≡ seen + 1) × (seen < 2 ^ 64 - 2)

-- while a locking call is under way its party has no hold
abbrev pub AtRwReader : {T : Type 0} → RwReaderPlace → PendingCall T → Option HoldKind → Type 0
AtRwReader RwReaderPlace.TryReadLook c hold = (c.call ≡ Call.TryReadLock) × (hold ≡ None)
AtRwReader (RwReaderPlace.TryRead seen to) c hold = (c.call ≡ Call.TryReadLock) × (hold ≡ None) × Enters seen to × IsLook Word.State seen c.own × (latest_outcome c.own ≡ Then.GoesOn)
AtRwReader (RwReaderPlace.ReadLook patience) c hold = (c.call ≡ Call.ReadLock) × (hold ≡ None) × HasSpun is_in_vain patience c.own
AtRwReader (RwReaderPlace.Read seen to patience) c hold = (c.call ≡ Call.ReadLock) × (hold ≡ None) × Enters seen to × HasSpun is_in_vain patience c.own × (latest_outcome c.own ≡ Then.GoesOn)
AtRwReader RwReaderPlace.TryWrite c hold = (c.call ≡ Call.TryWriteLock) × (hold ≡ None)
AtRwReader (RwReaderPlace.Write patience) c hold = (c.call ≡ Call.WriteLock) × (hold ≡ None) × HasSpun is_in_vain patience c.own × (spins_in is_step c.own ≡ spins_in is_in_vain c.own)
AtRwReader RwReaderPlace.Release c hold = (c.call ≡ Call.Unlock) × (is_some hold ≡ true)
AtRwReader RwReaderPlace.Wake c hold = c.call ≡ Call.Unlock

-- Where a step leads.

-- how `ReadLock` goes on after a look, by whether a reader may enter
abbrev pub read_after : {T : Type 0} → Patience → ℕ → Bool → After T RwReaderPlace
read_after patience v b = cond b (After.At (RwReaderPlace.Read v (v + 1) patience)) (within RwReaderPlace.ReadLook (refused patience v))

-- Where an answer leads.

pub rw_reader_kept : {T : Type 0} → IsKept {T = T} rw_reader_table AtRwReader
rw_reader_kept = grind (arith, nat_tests, eqb-true, eqb-false)

-- Its word counts the holds.

reader_intent : {T : Type 0} (place : RwReaderPlace) (c : PendingCall T) (hold : Option HoldKind) → AtRwReader place c hold → IsReaderIntent {T = T} (rw_reader_table.grant c.call) hold (rw_reader_table.intent place hold)
reader_intent place c hold h1 = grind (arith, nat_tests, eqb-true, eqb-false)

pub rw_reader_is_lock : {T : Type 0} (z : Arithmetic T) (parties : ℕ) → IsReaderLock {T = T} z rw_reader_table parties
rw_reader_is_lock z parties =
    record {
      opens = refl;
      steps = λ past party c place run called stage. reader_intent place c (hold_of rw_reader_table party past) (at_place z rw_reader_table parties AtRwReader rw_reader_kept past run party c place called stage);
    }

-- No call tries in vain and goes on by itself more than 10000 times.
pub spins_bounded : {T : Type 0} (place : RwReaderPlace) (c : PendingCall T) (hold : Option HoldKind) → AtRwReader place c hold → steps_in_vain c.call c.own ≤ 10000
spins_bounded place c hold h1 = grind (arith, nat_tests, eqb-true, eqb-false)

-- What one more event tells.

-- what is so of a call where it asks its wait closure
abbrev pub IsAskedSo : {T : Type 0} → PendingCall T → Act T → ℕ → Type 0
IsAskedSo c act told = (lock_spins c.call c.own ≡ 10000) × (sight_of Word.State act ≡ Some told) × (keeps_asking c.own ≡ true)

pub record EventLaw {T : Type 0} (party : ℕ) (past : List (Event T)) (pending : Option (PendingCall T)) (m : Move T) : Type 0 where
  pub cause : MatchBool (is_refusal m.outcome) (MatchOption pending ⊥ (λ c. RwReaderCause c.call party (event party m.act m.outcome ∷ past))) (Unit {0})
  pub exact :
      MatchOption pending (Unit {0})
      (λ c. c.call ≡ Call.TryWriteLock → is_sight Word.State m.act ≡ true → ((m.outcome ≡ Then.Answers Answer.Success) ↔ (holds_of rw_reader_table past ≡ [])))
  pub asks : WhereAsked IsAskedSo pending m.act m.outcome

another : {T : Type 0} (one other : Call T) (A : Type 0) → one ≡ other → (one ≡ Call.TryWriteLock → ⊥) → other ≡ Call.TryWriteLock → A
another one other A is_not_try is try = absurd (is (is_not_try ∙ try))

try_read_law :
    {T : Type 0} (party : ℕ) (past : List (Event T)) (c : PendingCall T) (w : ℕ) (b : Bool) → c.call ≡ Call.TryReadLock → lets_readers_in w ≡ b → CountsHolds w (holds_of rw_reader_table past) →
    EventLaw party past (Some c) (record { act = Act.Load Word.State w; outcome = outcome_of {T = T} {P = RwReaderPlace} (cond b (After.At (RwReaderPlace.TryRead w (w + 1))) (After.Ends Answer.Interrupted)) })
try_read_law party past c w b h1 h2 h3 = grind (arith, nat_tests, eqb-true, eqb-false)

-- a failed exchange of `TryReadLock`: had nobody written since its look, it would have found what that saw
try_enter_law :
    {T : Type 0} (party : ℕ) (past : List (Event T)) (c : PendingCall T) (seen to w : ℕ) (done : Bool) → c.call ≡ Call.TryReadLock → (w == seen) ≡ done → OtherWroteSinceSight Word.State party past ⊎ (w ≡ seen) →
    EventLaw party past (Some c) (record { act = Act.Exchange Word.State seen to w done; outcome = outcome_of {T = T} {P = RwReaderPlace} (cond done (After.Ends Answer.Success) (After.Ends Answer.Interrupted)) })
try_enter_law party past c seen to w done h1 h2 h3 = grind (arith, nat_tests, eqb-true, eqb-false)

read_law :
    {T : Type 0} (party : ℕ) (past : List (Event T)) (c : PendingCall T) (patience : Patience) (act : Act T) (w : ℕ) (b : Bool) → call_of party past ≡ Some c → c.call ≡ Call.ReadLock → HasSpun is_in_vain patience c.own →
    sight_of Word.State act ≡ Some w → lets_readers_in w ≡ b → CountsHolds w (holds_of rw_reader_table past) →
    EventLaw party past (Some c) (record { act = act; outcome = outcome_of {T = T} (read_after patience w b) })
read_law party past c patience act w b h1 h2 h3 h4 h5 h6 = grind (arith, nat_tests, eqb-true, eqb-false)

enter_law :
    {T : Type 0} (party : ℕ) (past : List (Event T)) (c : PendingCall T) (patience : Patience) (seen to w : ℕ) (done : Bool) → call_of party past ≡ Some c → c.call ≡ Call.ReadLock → HasSpun is_in_vain patience c.own →
    CountsHolds w (holds_of rw_reader_table past) →
    EventLaw party past (Some c) (record { act = Act.Exchange Word.State seen to w done; outcome = outcome_of {T = T} (cond done (After.Ends Answer.Success) (read_look patience w)) })
enter_law party past c patience seen to w done h1 h2 h3 h4 = grind (arith, nat_tests, eqb-true, eqb-false)

try_write_law :
    {T : Type 0} (party : ℕ) (past : List (Event T)) (c : PendingCall T) (w : ℕ) (b : Bool) → c.call ≡ Call.TryWriteLock → (w == 0) ≡ b → CountsHolds w (holds_of rw_reader_table past) →
    EventLaw party past (Some c) (record { act = Act.Exchange Word.State 0 (2 ^ 64 - 1) w b; outcome = outcome_of {T = T} {P = RwReaderPlace} (cond b (After.Ends Answer.Success) (After.Ends Answer.Interrupted)) })
try_write_law party past c w true try sees law =
    record {
      cause = tt;
      exact = λ try sight. (λ granted. (free_exactly w (holds_of rw_reader_table past) law).0 (eqb-true w 0 sees), λ none. refl);
      asks = tt;
    }
try_write_law {T} party past c w false try sees law =
    let refuses : Event T = event party (Act.Exchange Word.State 0 (2 ^ 64 - 1) w false) (Then.Answers Answer.Interrupted) in
    record {
      cause = subst (λ (k : Call T). RwReaderCause k party (refuses ∷ past)) (sym try) (rw (eqb_same party) (held_at w (holds_of rw_reader_table past) law (eqb-false w 0 sees)));
      exact = λ try sight. (λ granted. absurd cc, λ none. absurd (eqb-false w 0 sees ((free_exactly w (holds_of rw_reader_table past) law).1 none)));
      asks = tt;
    }

write_law :
    {T : Type 0} (party : ℕ) (past : List (Event T)) (c : PendingCall T) (patience : Patience) (w : ℕ) (b : Bool) → call_of party past ≡ Some c → c.call ≡ Call.WriteLock → HasSpun is_in_vain patience c.own →
    (w == 0) ≡ b → CountsHolds w (holds_of rw_reader_table past) →
    EventLaw party past (Some c) (record { act = Act.Exchange Word.State 0 (2 ^ 64 - 1) w b; outcome = outcome_of {T = T} (cond b (After.Ends Answer.Success) (within RwReaderPlace.Write (refused patience w))) })
write_law party past c patience w true called write spun sees law = record { cause = tt; exact = another Call.WriteLock c.call _ (sym write) (λ same. absurd cc); asks = tt }
write_law {T} party past c patience w false called write spun sees law =
    record {
      cause = refused_because is_in_vain RwReaderPlace.Write patience w c.own _ spun (λ aborted. because aborted);
      exact = another Call.WriteLock c.call _ (sym write) (λ same. absurd cc);
      asks = refused_asks is_in_vain RwReaderPlace.Write patience w c (Act.Exchange Word.State 0 (2 ^ 64 - 1) w false) IsAskedSo spun
          (λ spent asking. (subst (λ (k : Call T). lock_spins k c.own ≡ 10000) (sym write) spent, refl, asking));
    }
  where
    ended : Event T
    ended = event party (Act.Exchange Word.State 0 (2 ^ 64 - 1) w false) (outcome_of {T = T} (within RwReaderPlace.Write (refused patience w)))

    because : keeps_asking c.own ≡ false → RwReaderCause c.call party (ended ∷ past)
    because aborted =
        let has_aborted : HasAborted party past = rw called aborted in
        subst (λ (k : Call T). RwReaderCause k party (ended ∷ past)) (sym write) (rw (eqb_same party) (has_aborted, held_at w (holds_of rw_reader_table past) law (eqb-false w 0 sees)))

release_law : {T : Type 0} (party : ℕ) (past : List (Event T)) (c : PendingCall T) (act : Act T) → c.call ≡ Call.Unlock → EventLaw party past (Some c) (record { act = act; outcome = Then.GoesOn })
release_law party past c act unlock = record { cause = tt; exact = another Call.Unlock c.call _ (sym unlock) (λ same. absurd cc); asks = tt }

step_law :
    {T : Type 0} (z : Arithmetic T) (parties party : ℕ) (past : List (Event T)) (c : PendingCall T) (place : RwReaderPlace) (hold : Option HoldKind) → IsPast z rw_reader_table parties past → call_of party past ≡ Some c → AtRwReader place c hold →
    CountsHolds (word_in rw_reader_table past Word.State) (holds_of rw_reader_table past) → EventLaw party past (Some c) (step_at rw_reader_table place hold (word_in rw_reader_table past))
step_law z parties party past c RwReaderPlace.TryReadLook hold run called at law =
    let w = word_in rw_reader_table past Word.State in
    try_read_law party past c w (lets_readers_in w) at.0 refl law
step_law z parties party past c (RwReaderPlace.TryRead seen to) hold run called at law =
    let w = word_in rw_reader_table past Word.State in
    try_enter_law party past c seen to w (w == seen) at.0 refl (kept_or_written z rw_reader_table parties Word.State party seen past run c called at.3)
step_law z parties party past c (RwReaderPlace.ReadLook patience) hold run called at law =
    let w = word_in rw_reader_table past Word.State in
    read_law party past c patience (Act.Load Word.State w) w (lets_readers_in w) called at.0 at.2 refl refl law
step_law z parties party past c (RwReaderPlace.Read seen to patience) hold run called at law =
    let w = word_in rw_reader_table past Word.State in
    enter_law party past c patience seen to w (w == seen) called at.0 at.3 law
step_law z parties party past c RwReaderPlace.TryWrite hold run called at law =
    let w = word_in rw_reader_table past Word.State in
    try_write_law party past c w (w == 0) at.0 refl law
step_law z parties party past c (RwReaderPlace.Write patience) hold run called at law =
    let w = word_in rw_reader_table past Word.State in
    write_law party past c patience w (w == 0) called at.0 at.2 refl law
step_law z parties party past c RwReaderPlace.Release hold run called at law = release_law party past c _ at.0
step_law z parties party past c RwReaderPlace.Wake hold run called at law = record { cause = tt; exact = another Call.Unlock c.call _ (sym at) (λ same. absurd cc); asks = tt }

silent : {T : Type 0} (party : ℕ) (past : List (Event T)) (pending : Option (PendingCall T)) (act : Act T) → is_sight Word.State act ≡ false → EventLaw party past pending (record { act = act; outcome = Then.GoesOn })
silent party past pending act h1 = grind (arith, nat_tests, eqb-true, eqb-false)

pub event_law :
    {T : Type 0} (z : Arithmetic T) (parties : ℕ) (past : List (Event T)) (e : Event T) → IsPast z rw_reader_table parties (e ∷ past) → EventLaw e.party past (call_of e.party past) (record { act = e.act; outcome = e.then })
event_law {T} z parties past e run =
    by_move rw_reader_table (call_of e.party past) (hold_of rw_reader_table e.party past) (word_in rw_reader_table past) (λ (k : Option (PendingCall T)) (m : Move T). EventLaw e.party past k m)
    run.0.0 (record { act = e.act; outcome = e.then })
    (λ call _. silent e.party past (call_of e.party past) (Act.Begun call) refl) (λ action _. silent e.party past (call_of e.party past) (Act.Answered action) refl) (λ choice _. silent e.party past (call_of e.party past) (Act.Chosen choice) refl)
    (λ c place _ called stage.
    step_law z parties e.party past c place (hold_of rw_reader_table e.party past) run.1 called (at_place z rw_reader_table parties AtRwReader rw_reader_kept past run.1 e.party c place called stage)
    (reader_lock_word z rw_reader_table parties (rw_reader_is_lock z parties) past run.1).counts)
    run.0.1.moved

-- a reader-preferring lock has no other word
pub rw_reader_lacks : (T : Type 0) (word : Word) → same_word Word.State word ≡ false → Lacks {T = T} rw_reader_table word
rw_reader_lacks T word h1 = grind (arith, nat_tests, eqb-true, eqb-false)
