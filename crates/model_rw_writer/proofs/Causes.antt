-- Each refusal of a writer-preferring lock has its cause, and a `TryWriteLock` is granted exactly where it may be.
use Rattle.model_rw_writer.proofs.Names.{◌≡◌, ◌≢◌, ℕ, ◌-◌, ◌^◌, ◌<◌, ◌≤◌, ◌==◌, refl, sym, ◌∙◌, ap, subst, Bool, true, false, cond, ◌&&◌, length, List, [], ◌∷◌, Option, Some, None, ◌⊎◌, inl, inr, ◌↔◌, arith, eqb-true, eqb-false, false≢true, nat_tests, eqb_same, both_kinds, by_move, tells_memory, kept_or_written, longer, at_last_sight, waits_first, waits_as, MatchBool, MatchOption, not, Word, Call, Act, Answer, Event, Then, HoldKind, Patience, After, Arithmetic, carried_out, value_told, outcome_of, PendingCall, call_of, call_after, Hold, holds_of, hold_of, word_in, event, is_failure, Move, step_at, IsPast, is_sight, is_beginning, keeps_asking, HasAborted, OtherWroteSinceSight, AtLastSight, is_refusal, IsLocked, Leaver, RwWriterPlace, is_marked, is_blocked, try_read_look, read_look, spins, marks_or_spins, unmarks_or_leaves, write_refused, write_look, last_look, released, woken_one, woken_all, rw_writer_table, is_marked_after, CountsHolds, HasMissedAfterAbort, RwWriterCause, IsExactGrant, rw_writer_waiting, KeepsRwWriter}
use Rattle.model_rw_writer.proofs.WordLaws.{held_by_none, writer_lock_exclusive}
use Rattle.model_rw_writer.proofs.StageLaws.{same_call}
use Rattle.model_rw_writer.proofs.PlaceLaws.{AtRwWriter, Asks, MayGiveUp, failed_after_abort, IsLeaver, held_above, here}
use Rattle.model_rw_writer.proofs.DebtLaws.{counter_counts_adds, no_count_is_lost, pays_next}
use Rattle.model_rw_writer.proofs.WakeLaws.{readers_are_woken}
use Rattle.model_rw_writer.proofs.NextSteps.{each_steps, each_ends}
use Rattle.model_rw_writer.proofs.SpinLaws.{event_asks}
use Rattle.model_rw_writer.proofs.MarkLaws.{event_stands}
use Rattle.model_rw_writer.proofs.AskLaws.{spins_at_most}
use Rattle.model_rw_writer.proofs.AnswerLaws.{answers_at_every_prefix}
use Rattle.model_rw_writer.proofs.Laws.{event_keeps, writer_lock_word, setter_is_under_way}

-- What the word says of the holds and the mark.

held_at : (w : ℕ) (holds : List Hold) (marked : Bool) → CountsHolds w holds marked → 2 ≤ w → 0 < length holds
held_at w holds marked h1 h2 = grind (arith, nat_tests, eqb-true, eqb-false, both_kinds)

taken_at : (w : ℕ) (holds : List Hold) (marked : Bool) → CountsHolds w holds marked → w ≢ 0 → (0 < length holds) ⊎ (marked ≡ true)
taken_at w holds marked h1 h2 = grind (arith, nat_tests, eqb-true, eqb-false, both_kinds)

-- A failed exchange after a look: another party has written.

failed_exchange :
    {T : Type 0} (party : ℕ) (past : List (Event T)) (seen to w : ℕ) (b : Bool) → (w == seen) ≡ b → is_failure {T = T} (Act.Exchange Word.State seen to w b) ≡ true → OtherWroteSinceSight Word.State party past ⊎ (w ≡ seen) →
    OtherWroteSinceSight Word.State party past
failed_exchange party past seen to w b h1 h2 h3 = grind (arith, nat_tests, eqb-true, eqb-false)

other_call : {T : Type 0} (A : Type 0) (call one other : Call T) → call ≡ one → call ≡ other → (one ≡ other → ⊥) → A
other_call A call one other is also apart = absurd (apart (sym is ∙ also))

-- an exchange of a `WriteLock` that failed
step_missed :
    {T : Type 0} (z : Arithmetic T) (parties party : ℕ) (past : List (Event T)) (c : PendingCall T) (place : RwWriterPlace) (hold : Option HoldKind) → IsPast z rw_writer_table parties past → call_of party past ≡ Some c →
    AtRwWriter place c hold → c.call ≡ Call.WriteLock → (is_sight Word.State (step_at {T = T} rw_writer_table place hold (word_in rw_writer_table past)).act && is_failure (step_at {T = T} rw_writer_table place hold (word_in rw_writer_table past)).act) ≡ true →
    OtherWroteSinceSight Word.State party past
step_missed {T} z parties party past c (RwWriterPlace.TryRead seen to) hold run called at write fails = other_call _ c.call Call.TryReadLock Call.WriteLock at.0 write (λ same. absurd cc)
step_missed {T} z parties party past c (RwWriterPlace.Read seen to patience) hold run called at write fails = other_call _ c.call Call.ReadLock Call.WriteLock at.0 write (λ same. absurd cc)
step_missed {T} z parties party past c RwWriterPlace.TryWrite hold run called at write fails = other_call _ c.call Call.TryWriteLock Call.WriteLock at.0 write (λ same. absurd cc)
step_missed z parties party past c (RwWriterPlace.Enter seen patience) hold run called at write fails =
    let w = word_in rw_writer_table past Word.State in
    failed_exchange party past seen (2 ^ 64 - 1) w (w == seen) refl fails (kept_or_written z rw_writer_table parties Word.State party seen past run c called at.4.0)
step_missed z parties party past c (RwWriterPlace.Mark seen to patience) hold run called at write fails =
    let w = word_in rw_writer_table past Word.State in
    failed_exchange party past seen to w (w == seen) refl fails (kept_or_written z rw_writer_table parties Word.State party seen past run c called at.4.0)
step_missed z parties party past c (RwWriterPlace.Unmark seen to) hold run called at write fails =
    let w = word_in rw_writer_table past Word.State in
    failed_exchange party past seen to w (w == seen) refl fails (kept_or_written z rw_writer_table parties Word.State party seen past run c called at.4.0)
step_missed z parties party past c RwWriterPlace.TryReadLook hold run called at write fails = absurd (false≢true fails)
step_missed z parties party past c (RwWriterPlace.ReadLook patience) hold run called at write fails = absurd (false≢true fails)
step_missed z parties party past c (RwWriterPlace.WriteLook patience) hold run called at write fails = absurd (false≢true fails)
step_missed z parties party past c (RwWriterPlace.LoadCounter patience) hold run called at write fails = absurd (false≢true fails)
step_missed z parties party past c (RwWriterPlace.LastLook count patience) hold run called at write fails = absurd (false≢true fails)
step_missed z parties party past c RwWriterPlace.Release None run called at write fails = absurd (false≢true fails)
step_missed z parties party past c RwWriterPlace.Release (Some HoldKind.Read) run called at write fails = absurd (false≢true fails)
step_missed z parties party past c RwWriterPlace.Release (Some HoldKind.Write) run called at write fails = absurd (false≢true fails)
step_missed z parties party past c (RwWriterPlace.Count who) hold run called at write fails = absurd (false≢true fails)
step_missed z parties party past c (RwWriterPlace.WakeOne who) hold run called at write fails = absurd (false≢true fails)
step_missed z parties party past c (RwWriterPlace.WakeAll who) hold run called at write fails = absurd (false≢true fails)

event_missed :
    {T : Type 0} (z : Arithmetic T) (parties : ℕ) (past : List (Event T)) (e : Event T) → IsPast z rw_writer_table parties (e ∷ past) → (c : PendingCall T) → call_of e.party past ≡ Some c → c.call ≡ Call.WriteLock →
    (is_sight Word.State e.act && is_failure e.act) ≡ true → OtherWroteSinceSight Word.State e.party past
event_missed {T} z parties past e run c called write fails =
    by_move rw_writer_table (call_of e.party past) (hold_of rw_writer_table e.party past) (word_in rw_writer_table past)
    (λ (k : Option (PendingCall T)) (x : Move T). (k ≡ Some c) → (is_sight Word.State x.act && is_failure x.act) ≡ true → OtherWroteSinceSight Word.State e.party past)
    run.0.0 (record { act = e.act; outcome = e.then }) (λ call _ is no_sight. absurd (false≢true no_sight)) (λ action _ is no_sight. absurd (false≢true no_sight)) (λ choice _ is no_sight. absurd (false≢true no_sight))
    (λ d place _ here_called stage is missed.
    let same : d ≡ c = same_call d c is in
    step_missed z parties e.party past d place (hold_of rw_writer_table e.party past) run.1 here_called (here z parties past run.1 e.party d place here_called stage)
    (subst (λ (k : PendingCall T). k.call ≡ Call.WriteLock) (sym same) write) missed)
    run.0.1.moved called fails

not_false : (b : Bool) → not b ≡ true → b ≡ false
not_false b h1 = grind (arith, nat_tests, eqb-true, eqb-false)

-- a `WriteLock` whose latest failed exchange came after its Abort has missed
missed_at :
    {T : Type 0} (z : Arithmetic T) (parties party : ℕ) (past : List (Event T)) → IsPast z rw_writer_table parties past → (own : List (Event T)) → call_of party past ≡ Some (record { call = Call.WriteLock; own = own }) →
    failed_after_abort own ≡ true → HasMissedAfterAbort party past
missed_at z parties party [] run own called failed = absurd cc
missed_at {T} z parties party (e ∷ past) run own called failed = by_party (missed_at z parties party past run.1) (e.party == party) refl called
  where
    Before : Type 0
    Before = (o : List (Event T)) → call_of party past ≡ Some (record { call = Call.WriteLock; own = o }) → failed_after_abort o ≡ true → HasMissedAfterAbort party past

    by_failure : Before → e.party ≡ party → (o : List (Event T)) → call_of party past ≡ Some (record { call = Call.WriteLock; own = o }) → is_beginning e.act ≡ false → (b : Bool) → (is_sight Word.State e.act && is_failure e.act) ≡ b →
        cond b (not (keeps_asking o)) (failed_after_abort o) ≡ true →
        MatchBool b (HasAborted party past × OtherWroteSinceSight Word.State party past) (MatchBool (is_beginning e.act) ⊥ (HasMissedAfterAbort party past))
    by_failure before mine o was goes true fails aborted =
        let has_aborted : HasAborted party past = rw was (not_false (keeps_asking o) aborted) in
        let theirs : call_of e.party past ≡ Some (record { call = Call.WriteLock; own = o }) = subst (λ q. call_of q past ≡ Some (record { call = Call.WriteLock; own = o })) (sym mine) was in
        let wrote : OtherWroteSinceSight Word.State e.party past = event_missed z parties past e run (record { call = Call.WriteLock; own = o }) theirs refl fails in
        (has_aborted, subst (λ q. OtherWroteSinceSight Word.State q past) mine wrote)
    by_failure before mine o was goes false fails failed_before = rw goes (before o was failed_before)

    by_own : Before → e.party ≡ party →
        (own ≡ []) ⊎ ((o : List (Event T)) × (call_of party past ≡ Some (record { call = Call.WriteLock; own = o })) × (own ≡ e ∷ o) × (is_beginning e.act ≡ false)) →
        MatchBool (is_sight Word.State e.act && is_failure e.act) (HasAborted party past × OtherWroteSinceSight Word.State party past) (MatchBool (is_beginning e.act) ⊥ (HasMissedAfterAbort party past))
    by_own before mine (inl nothing) = let no_more : failed_after_abort {T = T} [] ≡ true = subst (λ (o : List (Event T)). failed_after_abort o ≡ true) nothing failed in absurd cc
    by_own before mine (inr more) =
        let latest : failed_after_abort (e ∷ more.0) ≡ true = subst (λ (o : List (Event T)). failed_after_abort o ≡ true) more.2 failed in
        by_failure before mine more.0 more.1 more.3 (is_sight Word.State e.act && is_failure e.act) refl latest

    by_party : Before → (b : Bool) → (e.party == party) ≡ b → cond b (call_after e.then e (call_of party past)) (call_of party past) ≡ Some (record { call = Call.WriteLock; own = own }) →
        MatchBool b
        (MatchBool (is_sight Word.State e.act && is_failure e.act) (HasAborted party past × OtherWroteSinceSight Word.State party past) (MatchBool (is_beginning e.act) ⊥ (HasMissedAfterAbort party past)))
        (HasMissedAfterAbort party past)
    by_party before true mine is = by_own before (eqb-true e.party party mine) (longer e.then e (call_of party past) (record { call = Call.WriteLock; own = own }) is)
    by_party before false mine is = before own is failed

-- why a `WriteLock` gave up whose latest own event is no sight of the word
gave_up :
    {T : Type 0} (z : Arithmetic T) (parties party : ℕ) (past : List (Event T)) (own : List (Event T)) → IsPast z rw_writer_table parties past → call_of party past ≡ Some (record { call = Call.WriteLock; own = own }) → MayGiveUp own →
    AtLastSight Word.State (λ before. HasAborted party before × IsLocked rw_writer_table before) party past ⊎ HasMissedAfterAbort party past
gave_up {T} z parties party past own run called (inl saw) =
    inl (at_last_sight z rw_writer_table parties Word.State party saw.seen Call.WriteLock saw.before (λ before. HasAborted party before × IsLocked rw_writer_table before)
    (λ prefix prefix_run was told. held prefix prefix_run was told) past run own called saw.saw)
  where
    held : (prefix : List (Event T)) → IsPast z rw_writer_table parties prefix → call_of party prefix ≡ Some (record { call = Call.WriteLock; own = saw.before }) → word_in rw_writer_table prefix Word.State ≡ saw.seen →
        HasAborted party prefix × IsLocked rw_writer_table prefix
    held prefix prefix_run was told =
        let has_aborted : HasAborted party prefix = rw was saw.aborted in
        let above : 2 ≤ word_in rw_writer_table prefix Word.State = omega (arith, saw.held, told) in
        (has_aborted, held_at (word_in rw_writer_table prefix Word.State) (holds_of rw_writer_table prefix) (is_marked_after prefix) (writer_lock_word z parties prefix prefix_run).counts above)
gave_up z parties party past own run called (inr failed) = inr (missed_at z parties party past run own called failed)

-- What one more event tells, by how its call goes on.

-- where it ends with a refusal, its cause is there
abbrev HasCauseAfter : {T : Type 0} → ℕ → List (Event T) → Call T → Act T → After T RwWriterPlace → Type 0
HasCauseAfter party past call act a = MatchBool (is_refusal (outcome_of a)) (RwWriterCause call party (event party act (outcome_of a) ∷ past)) (Unit {0})

for_call : {T : Type 0} (party : ℕ) (past : List (Event T)) (c : PendingCall T) (call : Call T) (act : Act T) (a : After T RwWriterPlace) → c.call ≡ call → HasCauseAfter party past call act a → HasCauseAfter party past c.call act a
for_call {T} party past c call act a is law = subst (λ (k : Call T). HasCauseAfter party past k act a) (sym is) law

try_read_cause : {T : Type 0} (party : ℕ) (past : List (Event T)) (w : ℕ) → CountsHolds w (holds_of rw_writer_table past) (is_marked_after past) → HasCauseAfter party past Call.TryReadLock (Act.Load Word.State w) (try_read_look w)
try_read_cause party past w h1 = grind (arith, nat_tests, eqb-true, eqb-false)

try_enter_cause :
    {T : Type 0} (party : ℕ) (past : List (Event T)) (seen to w : ℕ) (b : Bool) → (w == seen) ≡ b → OtherWroteSinceSight Word.State party past ⊎ (w ≡ seen) →
    HasCauseAfter {T = T} party past Call.TryReadLock (Act.Exchange Word.State seen to w b) (cond b (After.Ends Answer.Success) (After.Ends Answer.Interrupted))
try_enter_cause party past seen to w b h1 h2 = grind (arith, nat_tests, eqb-true, eqb-false)

read_cause :
    {T : Type 0} (party : ℕ) (past : List (Event T)) (c : PendingCall T) (patience : Patience) (act : Act T) (w : ℕ) → call_of party past ≡ Some c → Asks patience c.own → is_sight Word.State act ≡ true →
    CountsHolds w (holds_of rw_writer_table past) (is_marked_after past) → HasCauseAfter party past Call.ReadLock act (read_look patience w)
read_cause party past c patience act w h1 h2 h3 h4 = grind (arith, nat_tests, eqb-true, eqb-false)

read_enters_cause :
    {T : Type 0} (party : ℕ) (past : List (Event T)) (c : PendingCall T) (patience : Patience) (seen to w : ℕ) (b : Bool) → call_of party past ≡ Some c → Asks patience c.own →
    CountsHolds w (holds_of rw_writer_table past) (is_marked_after past) → HasCauseAfter party past Call.ReadLock (Act.Exchange Word.State seen to w b) (cond b (After.Ends Answer.Success) (read_look patience w))
read_enters_cause party past c patience seen to w b h1 h2 h3 = grind (arith, nat_tests, eqb-true, eqb-false)

try_write_cause :
    {T : Type 0} (party : ℕ) (past : List (Event T)) (w : ℕ) (b : Bool) → (w == 0) ≡ b → CountsHolds w (holds_of rw_writer_table past) (is_marked_after past) →
    HasCauseAfter {T = T} party past Call.TryWriteLock (Act.Exchange Word.State 0 (2 ^ 64 - 1) w b) (cond b (After.Ends Answer.Success) (After.Ends Answer.Interrupted))
try_write_cause party past w true is law = tt
try_write_cause party past w false is law = rw (eqb_same party) (taken_at w (holds_of rw_writer_table past) (is_marked_after past) law (eqb-false w 0 is))

-- The writer.

no_spin_refuses : {T : Type 0} (party : ℕ) (past : List (Event T)) (act : Act T) (patience : Patience) → HasCauseAfter party past Call.WriteLock act (spins patience)
no_spin_refuses party past act patience = grind (arith, nat_tests, eqb-true, eqb-false)

no_mark_refuses : {T : Type 0} (party : ℕ) (past : List (Event T)) (act : Act T) (patience : Patience) (w : ℕ) → HasCauseAfter party past Call.WriteLock act (marks_or_spins patience w)
no_mark_refuses party past act patience w = grind (arith, nat_tests, eqb-true, eqb-false)

-- a look at a held lock, or a failed exchange after a look
abbrev Why : {T : Type 0} → ℕ → List (Event T) → Act T → ℕ → Type 0
Why party past act w = (2 ≤ w) ⊎ ((is_failure act ≡ true) × OtherWroteSinceSight Word.State party past)

leaves_cause :
    {T : Type 0} (party : ℕ) (past : List (Event T)) (c : PendingCall T) (act : Act T) (w : ℕ) → call_of party past ≡ Some c → keeps_asking c.own ≡ false → is_sight Word.State act ≡ true → Why party past act w →
    CountsHolds w (holds_of rw_writer_table past) (is_marked_after past) → HasCauseAfter party past Call.WriteLock act (unmarks_or_leaves w)
leaves_cause {T} party past c act w called aborted sight why law = by_test (is_marked w)
  where
    has_aborted : HasAborted party past
    has_aborted = rw called aborted

    because : Why party past act w → RwWriterCause Call.WriteLock party (event party act (Then.Answers Answer.Interrupted) ∷ past)
    because (inl held) = inl (rw (eqb_same party, sight) (has_aborted, held_at w (holds_of rw_writer_table past) (is_marked_after past) law held))
    because (inr missed) = inr (rw (eqb_same party, sight, missed.0) (has_aborted, missed.1))

    by_test : (b : Bool) → HasCauseAfter {T = T} party past Call.WriteLock act (cond b (After.At (RwWriterPlace.Unmark w (w - 1))) (After.Ends Answer.Interrupted))
    by_test true = tt
    by_test false = because why

write_refused_cause :
    {T : Type 0} (party : ℕ) (past : List (Event T)) (c : PendingCall T) (patience : Patience) (act : Act T) (w : ℕ) → call_of party past ≡ Some c → Asks patience c.own → is_sight Word.State act ≡ true → Why party past act w →
    CountsHolds w (holds_of rw_writer_table past) (is_marked_after past) → HasCauseAfter party past Call.WriteLock act (write_refused patience w)
write_refused_cause party past c patience act w h1 h2 h3 h4 h5 = grind (arith, nat_tests, eqb-true, eqb-false, no_mark_refuses, leaves_cause)

write_look_cause :
    {T : Type 0} (party : ℕ) (past : List (Event T)) (c : PendingCall T) (patience : Patience) (act : Act T) (w : ℕ) → call_of party past ≡ Some c → Asks patience c.own → is_sight Word.State act ≡ true →
    CountsHolds w (holds_of rw_writer_table past) (is_marked_after past) → HasCauseAfter party past Call.WriteLock act (write_look patience w)
write_look_cause party past c patience act w h1 h2 h3 h4 = grind (arith, nat_tests, eqb-true, eqb-false, write_refused_cause, held_above)

last_look_cause :
    {T : Type 0} (party count : ℕ) (past : List (Event T)) (c : PendingCall T) (patience : Patience) (w : ℕ) → call_of party past ≡ Some c → Asks patience c.own →
    CountsHolds w (holds_of rw_writer_table past) (is_marked_after past) → HasCauseAfter party past Call.WriteLock (Act.Load Word.State w) (last_look count patience w)
last_look_cause {T} party count past c patience w called asks law = by_test (is_blocked w)
  where
    by_test : (b : Bool) → HasCauseAfter {T = T} party past Call.WriteLock (Act.Load Word.State w) (cond b (After.Waits (RwWriterPlace.WriteLook patience) count) (write_look patience w))
    by_test true = tt
    by_test false = write_look_cause party past c patience (Act.Load Word.State w) w called asks refl law

write_enters_cause :
    {T : Type 0} (party : ℕ) (past : List (Event T)) (c : PendingCall T) (patience : Patience) (seen to w : ℕ) (b : Bool) → (w == seen) ≡ b → call_of party past ≡ Some c → Asks patience c.own → OtherWroteSinceSight Word.State party past ⊎ (w ≡ seen) →
    CountsHolds w (holds_of rw_writer_table past) (is_marked_after past) → HasCauseAfter party past Call.WriteLock (Act.Exchange Word.State seen to w b) (cond b (After.Ends Answer.Success) (write_refused patience w))
write_enters_cause party past c patience seen to w b h1 h2 h3 h4 h5 = grind (arith, nat_tests, eqb-true, eqb-false)

mark_cause :
    {T : Type 0} (party : ℕ) (past : List (Event T)) (c : PendingCall T) (patience : Patience) (seen to w : ℕ) (b : Bool) → call_of party past ≡ Some c → Asks patience c.own →
    CountsHolds w (holds_of rw_writer_table past) (is_marked_after past) → HasCauseAfter party past Call.WriteLock (Act.Exchange Word.State seen to w b) (cond b (spins patience) (write_look patience w))
mark_cause party past c patience seen to w true called asks law = no_spin_refuses party past (Act.Exchange Word.State seen to w true) patience
mark_cause party past c patience seen to w false called asks law = write_look_cause party past c patience (Act.Exchange Word.State seen to w false) w called asks refl law

unmark_cause :
    {T : Type 0} (party : ℕ) (past : List (Event T)) (c : PendingCall T) (seen to w : ℕ) (b : Bool) → (w == seen) ≡ b → call_of party past ≡ Some c → keeps_asking c.own ≡ false → OtherWroteSinceSight Word.State party past ⊎ (w ≡ seen) →
    CountsHolds w (holds_of rw_writer_table past) (is_marked_after past) → HasCauseAfter party past Call.WriteLock (Act.Exchange Word.State seen to w b) (cond b (After.At (RwWriterPlace.Count Leaver.GivenUp)) (unmarks_or_leaves w))
unmark_cause party past c seen to w b h1 h2 h3 h4 h5 = grind (arith, nat_tests, eqb-true, eqb-false)

-- The leaving.

released_cause : {T : Type 0} (party : ℕ) (past : List (Event T)) (call : Call T) (act : Act T) (told : Option ℕ) → HasCauseAfter party past call act (released told)
released_cause party past call act told = grind (arith, nat_tests, eqb-true, eqb-false)

woken_one_cause : {T : Type 0} (party : ℕ) (past : List (Event T)) (call : Call T) (act : Act T) (who : Leaver) → HasCauseAfter party past call act (woken_one who)
woken_one_cause party past call act who = grind (arith, nat_tests, eqb-true, eqb-false)

own_call : {T : Type 0} (c : PendingCall T) → c.call ≡ Call.WriteLock → Some c ≡ Some (record { call = Call.WriteLock; own = c.own })
own_call {T} c is = ap (λ (k : Call T). Some (record { call = k; own = c.own })) is

woken_all_cause :
    {T : Type 0} (z : Arithmetic T) (parties party : ℕ) (past : List (Event T)) (c : PendingCall T) (act : Act T) (who : Leaver) → IsPast z rw_writer_table parties past → call_of party past ≡ Some c → IsLeaver who c → is_sight Word.State act ≡ false → is_beginning act ≡ false →
    HasCauseAfter party past c.call act (woken_all who)
woken_all_cause z parties party past c act Leaver.Reader run called at quiet goes = tt
woken_all_cause z parties party past c act Leaver.Writer run called at quiet goes = tt
woken_all_cause {T} z parties party past c act Leaver.GivenUp run called at quiet goes = for_call party past c Call.WriteLock act (After.Ends Answer.Interrupted) at.0 (because (gave_up z parties party past c.own run (called ∙ own_call c at.0) at.1))
  where
    because : AtLastSight Word.State (λ before. HasAborted party before × IsLocked rw_writer_table before) party past ⊎ HasMissedAfterAbort party past →
        RwWriterCause Call.WriteLock party (event party act (Then.Answers Answer.Interrupted) ∷ past)
    because (inl held) = inl (rw (eqb_same party, quiet, goes) held)
    because (inr missed) = inr (rw (eqb_same party, quiet, goes) missed)

step_cause :
    {T : Type 0} (z : Arithmetic T) (parties party : ℕ) (past : List (Event T)) (c : PendingCall T) (place : RwWriterPlace) (hold : Option HoldKind) → IsPast z rw_writer_table parties past → call_of party past ≡ Some c → AtRwWriter place c hold →
    HasCauseAfter party past c.call (step_at rw_writer_table place hold (word_in rw_writer_table past)).act
    (rw_writer_table.after place (value_told {T = T} (carried_out (rw_writer_table.intent place hold) (word_in rw_writer_table past))))
step_cause z parties party past c RwWriterPlace.TryReadLook hold run called at =
    let w = word_in rw_writer_table past Word.State in
    for_call party past c Call.TryReadLock (Act.Load Word.State w) (try_read_look w) at.0 (try_read_cause party past w (writer_lock_word z parties past run).counts)
step_cause z parties party past c (RwWriterPlace.TryRead seen to) hold run called at =
    let w = word_in rw_writer_table past Word.State in
    for_call party past c Call.TryReadLock _ _ at.0 (try_enter_cause party past seen to w (w == seen) refl (kept_or_written z rw_writer_table parties Word.State party seen past run c called at.3.0))
step_cause z parties party past c (RwWriterPlace.ReadLook patience) hold run called at =
    let w = word_in rw_writer_table past Word.State in
    for_call party past c Call.ReadLock (Act.Load Word.State w) (read_look patience w) at.0 (read_cause party past c patience (Act.Load Word.State w) w called at.2 refl (writer_lock_word z parties past run).counts)
step_cause z parties party past c (RwWriterPlace.Read seen to patience) hold run called at =
    let w = word_in rw_writer_table past Word.State in
    for_call party past c Call.ReadLock _ _ at.0 (read_enters_cause party past c patience seen to w (w == seen) called at.2 (writer_lock_word z parties past run).counts)
step_cause z parties party past c RwWriterPlace.TryWrite hold run called at =
    let w = word_in rw_writer_table past Word.State in
    for_call party past c Call.TryWriteLock _ _ at.0 (try_write_cause party past w (w == 0) refl (writer_lock_word z parties past run).counts)
step_cause z parties party past c (RwWriterPlace.WriteLook patience) hold run called at =
    let w = word_in rw_writer_table past Word.State in
    for_call party past c Call.WriteLock (Act.Load Word.State w) (write_look patience w) at.0 (write_look_cause party past c patience (Act.Load Word.State w) w called at.2 refl (writer_lock_word z parties past run).counts)
step_cause z parties party past c (RwWriterPlace.Enter seen patience) hold run called at =
    let w = word_in rw_writer_table past Word.State in
    let wrote = kept_or_written z rw_writer_table parties Word.State party seen past run c called at.4.0 in
    for_call party past c Call.WriteLock _ _ at.0 (write_enters_cause party past c patience seen (2 ^ 64 - 1) w (w == seen) refl called at.2 wrote (writer_lock_word z parties past run).counts)
step_cause z parties party past c (RwWriterPlace.Mark seen to patience) hold run called at =
    let w = word_in rw_writer_table past Word.State in
    for_call party past c Call.WriteLock _ _ at.0 (mark_cause party past c patience seen to w (w == seen) called at.2 (writer_lock_word z parties past run).counts)
step_cause z parties party past c (RwWriterPlace.Unmark seen to) hold run called at =
    let w = word_in rw_writer_table past Word.State in
    let wrote = kept_or_written z rw_writer_table parties Word.State party seen past run c called at.4.0 in
    for_call party past c Call.WriteLock _ _ at.0 (unmark_cause party past c seen to w (w == seen) refl called at.2 wrote (writer_lock_word z parties past run).counts)
step_cause z parties party past c (RwWriterPlace.LoadCounter patience) hold run called at = tt
step_cause z parties party past c (RwWriterPlace.LastLook count patience) hold run called at =
    let w = word_in rw_writer_table past Word.State in
    for_call party past c Call.WriteLock (Act.Load Word.State w) (last_look count patience w) at.0 (last_look_cause party count past c patience w called at.2 (writer_lock_word z parties past run).counts)
step_cause {T} z parties party past c RwWriterPlace.Release hold run called at =
    released_cause party past c.call _ (value_told {T = T} (carried_out (rw_writer_table.intent RwWriterPlace.Release hold) (word_in rw_writer_table past)))
step_cause z parties party past c (RwWriterPlace.Count who) hold run called at = tt
step_cause z parties party past c (RwWriterPlace.WakeOne who) hold run called at = woken_one_cause party past c.call _ who
step_cause z parties party past c (RwWriterPlace.WakeAll who) hold run called at = woken_all_cause z parties party past c _ who run called at refl refl

event_cause :
    {T : Type 0} (z : Arithmetic T) (parties : ℕ) (past : List (Event T)) (e : Event T) → IsPast z rw_writer_table parties (e ∷ past) →
    MatchBool (is_refusal e.then) (MatchOption (call_of e.party past) ⊥ (λ c. RwWriterCause c.call e.party (e ∷ past))) (Unit {0})
event_cause {T} z parties past e run =
    by_move rw_writer_table (call_of e.party past) (hold_of rw_writer_table e.party past) (word_in rw_writer_table past)
    (λ (k : Option (PendingCall T)) (x : Move T). MatchBool (is_refusal x.outcome) (MatchOption k ⊥ (λ c. RwWriterCause c.call e.party (event e.party x.act x.outcome ∷ past))) (Unit {0}))
    run.0.0 (record { act = e.act; outcome = e.then }) (λ call _. tt) (λ action _. tt) (λ choice _. tt)
    (λ c place _ called stage. step_cause z parties e.party past c place (hold_of rw_writer_table e.party past) run.1 called (here z parties past run.1 e.party c place called stage))
    run.0.1.moved

-- A `TryWriteLock` is granted exactly where nobody holds the lock and the mark is not set.

free_exactly : (w : ℕ) (holds : List Hold) (marked : Bool) → CountsHolds w holds marked → (w ≡ 0) ↔ ((holds ≡ []) × (marked ≡ false))
free_exactly w holds marked h1 = grind (arith, nat_tests, eqb-true, eqb-false, held_by_none)

-- the step of a `TryWriteLock` that sees the word succeeds exactly there
abbrev IsExactAfter : {T : Type 0} → List (Event T) → Call T → Act T → After T RwWriterPlace → Type 0
IsExactAfter past call act a =
    call ≡ Call.TryWriteLock → is_sight Word.State act ≡ true → ((outcome_of a ≡ Then.Answers Answer.Success) ↔ ((holds_of rw_writer_table past ≡ []) × (is_marked_after past ≡ false)))

tries_not : {T : Type 0} (A : Type 0) (call one : Call T) → call ≡ one → (one ≡ Call.TryWriteLock → ⊥) → call ≡ Call.TryWriteLock → A
tries_not A call one is apart try = other_call A call one Call.TryWriteLock is try apart

try_write_exact :
    {T : Type 0} (past : List (Event T)) (call : Call T) (w : ℕ) (b : Bool) → (w == 0) ≡ b → CountsHolds w (holds_of rw_writer_table past) (is_marked_after past) →
    IsExactAfter {T = T} past call (Act.Exchange Word.State 0 (2 ^ 64 - 1) w b) (cond b (After.Ends Answer.Success) (After.Ends Answer.Interrupted))
try_write_exact past call w true is law try sees = (λ granted. (free_exactly w (holds_of rw_writer_table past) (is_marked_after past) law).0 (eqb-true w 0 is), λ none. refl)
try_write_exact past call w false is law try sees =
    (λ granted. absurd cc, λ none. absurd (eqb-false w 0 is ((free_exactly w (holds_of rw_writer_table past) (is_marked_after past) law).1 none)))

leaver_tries_not : {T : Type 0} (A : Type 0) (c : PendingCall T) (who : Leaver) → IsLeaver who c → c.call ≡ Call.TryWriteLock → A
leaver_tries_not A c who h1 h2 = grind (arith, nat_tests, eqb-true, eqb-false)

step_exact :
    {T : Type 0} (past : List (Event T)) (c : PendingCall T) (place : RwWriterPlace) (hold : Option HoldKind) → AtRwWriter place c hold →
    CountsHolds (word_in rw_writer_table past Word.State) (holds_of rw_writer_table past) (is_marked_after past) →
    IsExactAfter past c.call (step_at rw_writer_table place hold (word_in rw_writer_table past)).act
    (rw_writer_table.after place (value_told {T = T} (carried_out (rw_writer_table.intent place hold) (word_in rw_writer_table past))))
step_exact past c place hold h1 h2 = grind (arith, nat_tests, eqb-true, eqb-false, tries_not, try_write_exact, leaver_tries_not)

unseen : {T : Type 0} (past : List (Event T)) (pending : Option (PendingCall T)) (act : Act T) → is_sight Word.State act ≡ false → MatchOption pending (Unit {0}) (λ c. IsExactAfter past c.call act (After.At RwWriterPlace.Release))
unseen past pending act h1 = grind (arith, nat_tests, eqb-true, eqb-false)

event_exact : {T : Type 0} (z : Arithmetic T) (parties : ℕ) (past : List (Event T)) (e : Event T) → IsPast z rw_writer_table parties (e ∷ past) → IsExactGrant (e ∷ past)
event_exact {T} z parties past e run =
    by_move rw_writer_table (call_of e.party past) (hold_of rw_writer_table e.party past) (word_in rw_writer_table past)
    (λ (k : Option (PendingCall T)) (x : Move T).
    MatchOption k (Unit {0})
    (λ c. c.call ≡ Call.TryWriteLock → is_sight Word.State x.act ≡ true → ((x.outcome ≡ Then.Answers Answer.Success) ↔ ((holds_of rw_writer_table past ≡ []) × (is_marked_after past ≡ false)))))
    run.0.0 (record { act = e.act; outcome = e.then })
    (λ call _. unseen past (call_of e.party past) (Act.Begun call) refl) (λ action _. unseen past (call_of e.party past) (Act.Answered action) refl) (λ choice _. unseen past (call_of e.party past) (Act.Chosen choice) refl)
    (λ c place _ called stage.
    step_exact past c place (hold_of rw_writer_table e.party past) (here z parties past run.1 e.party c place called stage) (writer_lock_word z parties past run.1).counts)
    run.0.1.moved

pub keeps_rw_writer : {T : Type 0} (z : Arithmetic T) (parties : ℕ) (past : List (Event T)) → IsPast z rw_writer_table parties past → KeepsRwWriter past
keeps_rw_writer z parties [] run =
    let word = writer_lock_word z parties [] run in
    record { told = tt; cause = tt; exclusive = writer_lock_exclusive 0 [] false word.counts; law = record { counts = word.counts; mark = tt; keeps_out = tt; exact = tt; answers = tt; waits = waits_first rw_writer_waiting; stands = tt; adds = counter_counts_adds z parties [] run; counted = no_count_is_lost z parties [] run; pays = pays_next z parties [] run; woken = readers_are_woken z parties [] run; steps = tt; within = λ party. tt } }
keeps_rw_writer z parties (e ∷ past) run =
    let word = event_keeps z parties past e run (writer_lock_word z parties past run.1) in
    let asks = event_asks z parties past e run in
    record {
      told = tells_memory z rw_writer_table parties (e ∷ past) run;
      exclusive = writer_lock_exclusive _ (holds_of rw_writer_table (e ∷ past)) (is_marked_after (e ∷ past)) word.kept.counts;
      cause = event_cause z parties past e run;
      law = record {
        counts = word.kept.counts;
        mark = setter_is_under_way z parties (e ∷ past) run;
        keeps_out = word.keeps_out;
        exact = event_exact z parties past e run;
        answers = answers_at_every_prefix z parties (e ∷ past) run;
        waits = waits_as rw_writer_waiting past e asks (spins_at_most z parties (e ∷ past) run);
        stands = event_stands z parties past e run;
        adds = counter_counts_adds z parties (e ∷ past) run;
        counted = no_count_is_lost z parties (e ∷ past) run;
        pays = pays_next z parties (e ∷ past) run;
        woken = readers_are_woken z parties (e ∷ past) run;
        steps = each_steps z parties (e ∷ past) run;
        within = each_ends z parties (e ∷ past) run;
      };
    }
