-- The steps of a writer-preferring lock are those of its table.
use Rattle.running_rw_writer.proofs.Names.{MatchBool, WaitAction, Word, Call, Answer, HoldKind, Patience, Intent, After, Leaver, RwWriterPlace, rw_writer_intent, rw_writer_grant, is_blocked, try_read_look, read_look, spins, marks_or_spins, unmarks_or_leaves, write_look, last_look, released, woken_all, is_last_reader, rw_writer_model, Slot, Parties, all_of, IsNamed, IsStepOn, Coming, Going, Beginning, Continuing, Answered, ComesBy, IsHolding, HasCalled, HasEnded, spun, IsGranted, StandsToWait, rw_writer_handed, eqb-false, eqb-true, ◌≡◌, ◌≢◌, ℕ, ◌+◌, ◌-◌, ◌%◌, ◌^◌, ◌<◌, ◌==◌, true, false, refl, sym, subst, List, [], ◌∷◌, Option, Some, None, arith, is_over, nat_tests, MayLook, MayEnter, IsMarked, IsOpen, has_hold, TableHas, TableLed, CallGoes, WriteGoes, GoesFromTo, SomeCallGoes, ComesToWrite, ComesToGiveUp, IsToWakeBoth, Unlocks, unlocked, Pass, PlayedRwWriter, parties_of}
use Rattle.running_model.specs.Turns.{IsOver, IsOverAside, IsOverAfterTwo}
use Rattle.running_model.proofs.Holding.{holding_told, holding_is}

abbrev Comes : Coming ℕ → Call ℕ → RwWriterPlace → List (Slot ℕ) → Parties ℕ → Type 0
Comes way call place done p = ComesBy rw_writer_model way call place None done p

abbrev Ended : Call ℕ → Answer ℕ → Option HoldKind → List (Slot ℕ) → Parties ℕ → Type 0
Ended call answer hold done p = HasEnded rw_writer_model call answer hold done p

-- an exchange of a `WriteLock` from 0 or 1 takes the write hold

enters : (seen : ℕ) → seen < 2 → rw_writer_grant {T = ℕ} Call.WriteLock seen (2 ^ 64 - 1) ≡ Some HoldKind.Write
enters seen free = grind (arith, nat_tests)

-- the steps that the table has

has_step : (way : Coming ℕ) (i : ℕ) (intent : Word → Intent ℕ) (call : Call ℕ) (place : RwWriterPlace) (hold : Option HoldKind) (done : List (Slot ℕ)) (p : Parties ℕ) (name : Word) →
    IsNamed (Word.State ∷ Word.Counter ∷ []) i name → ◌≡◌ {A = Intent ℕ} (rw_writer_intent Word.State Word.Counter place hold) (intent name) → IsStepOn name (intent name) →
    ComesBy rw_writer_model way call place hold done p → TableHas way i intent p
has_step way i intent call place hold done p name h1 h2 h3 h4 = grind (arith, nat_tests, eqb-true, eqb-false)

pub may_look : (way : Coming ℕ) (call : Call ℕ) (place : RwWriterPlace) (done : List (Slot ℕ)) (p : Parties ℕ) → ◌≡◌ {A = Intent ℕ} (rw_writer_intent Word.State Word.Counter place None) (Intent.Load Word.State) →
    Comes way call place done p → TableHas way 0 (λ w. Intent.Load w) p
may_look way call place done p intends comes = has_step way 0 (λ w. Intent.Load w) call place None done p Word.State refl intends refl comes

may_exchange : (way : Coming ℕ) (call : Call ℕ) (place : RwWriterPlace) (done : List (Slot ℕ)) (p : Parties ℕ) (from to put : ℕ) → put ≡ to →
    ◌≡◌ {A = Intent ℕ} (rw_writer_intent Word.State Word.Counter place None) (Intent.Exchange Word.State from to) → Comes way call place done p → TableHas way 0 (λ w. Intent.Exchange w from put) p
may_exchange way call place done p from to put h1 h2 h3 = grind (arith, nat_tests, eqb-true, eqb-false)

-- how the calls begin

try_write_begins : (p : Parties ℕ) → Comes (Beginning Call.TryWriteLock) Call.TryWriteLock RwWriterPlace.TryWrite (all_of p) p
try_write_begins p = (refl, record { may = record { begins = refl; free = refl; values = tt }; new = refl; others = refl })

pub write_begins : (p : Parties ℕ) → ComesToWrite (Beginning Call.WriteLock) (spun 0) (all_of p) p
write_begins p = (refl, record { may = record { begins = refl; free = refl; values = tt }; new = refl; others = refl })

unlock_begins : (kind : HoldKind) (done : List (Slot ℕ)) (p : Parties ℕ) → IsHolding rw_writer_model kind done p →
    ComesBy rw_writer_model (Continuing Call.Unlock) Call.Unlock RwWriterPlace.Release (Some kind) done p
unlock_begins kind done p holding = (refl, record { kind = kind; may = record { begins = refl; free = refl; values = tt }; kept = refl; holding = holding })

-- a reader's look

pub may_look_to_read : (way : Coming ℕ) (p : Parties ℕ) → MayLook rw_writer_model RwWriterPlace.TryReadLook RwWriterPlace.ReadLook way p → TableHas way 0 (λ w. Intent.Load w) p
may_look_to_read way p h1 = grind (arith, nat_tests, eqb-true, eqb-false, may_look)

-- where no reader may enter, the call is refused, and where one may, it comes to an exchange

comes_once : (seen : ℕ) (done : List (Slot ℕ)) (p : Parties ℕ) → IsOpen seen → CallGoes Call.TryReadLock (try_read_look seen) done p → CallGoes Call.TryReadLock (After.At (RwWriterPlace.TryRead seen (seen + 2))) done p
comes_once seen done p h1 h2 = grind (arith, nat_tests, eqb-true, eqb-false)

comes_to_read : (patience : Patience) (seen : ℕ) (done : List (Slot ℕ)) (p : Parties ℕ) → IsOpen seen → CallGoes Call.ReadLock (read_look patience seen) done p → CallGoes Call.ReadLock (After.At (RwWriterPlace.Read seen (seen + 2) patience)) done p
comes_to_read patience seen done p h1 h2 = grind (arith, nat_tests, eqb-true, eqb-false)

-- its exchange

pub may_read : (seen more : ℕ) (p : Parties ℕ) → IsOpen seen → more ≡ seen + 2 → MayEnter rw_writer_model RwWriterPlace.TryReadLook RwWriterPlace.ReadLook seen p → TableHas Going 0 (λ w. Intent.Exchange w seen more) p
may_read seen more p h1 h2 h3 = grind (arith, nat_tests, eqb-true, eqb-false, comes_once, comes_to_read, may_exchange)

pub read_once : (seen found : ℕ) (done : List (Slot ℕ)) (p q : Parties ℕ) → IsOpen seen → CallGoes Call.TryReadLock (try_read_look seen) done p → TableLed Going p found q →
    MatchBool (found == seen) (Ended Call.TryReadLock Answer.Success (Some HoldKind.Read) done q) (Ended Call.TryReadLock Answer.Interrupted None done q)
read_once seen found done p q h1 h2 h3 = grind (arith, nat_tests, eqb-true, eqb-false, comes_once)

pub read_goes : (patience : Patience) (seen found : ℕ) (done : List (Slot ℕ)) (p q : Parties ℕ) → IsOpen seen → CallGoes Call.ReadLock (read_look patience seen) done p → TableLed Going p found q →
    MatchBool (found == seen) (IsGranted rw_writer_model Call.ReadLock RwWriterPlace.ReadLook (Some HoldKind.Read) done q) (CallGoes Call.ReadLock (read_look patience found) done q)
read_goes patience seen found done p q h1 h2 h3 = grind (arith, nat_tests, eqb-true, eqb-false, comes_to_read)

-- a writer that tries once

pub may_write_once : (p : Parties ℕ) (put : ℕ) → put ≡ 2 ^ 64 - 1 → TableHas (Beginning Call.TryWriteLock) 0 (λ w. Intent.Exchange w 0 put) p
may_write_once p put is = may_exchange (Beginning Call.TryWriteLock) Call.TryWriteLock RwWriterPlace.TryWrite (all_of p) p 0 (2 ^ 64 - 1) put is refl (try_write_begins p)

pub wrote_once : (found : ℕ) (p q : Parties ℕ) → TableLed (Beginning Call.TryWriteLock) p found q →
    MatchBool (found == 0) (HasCalled rw_writer_model Call.TryWriteLock Answer.Success (Some HoldKind.Write) p q) (HasCalled rw_writer_model Call.TryWriteLock Answer.Interrupted None p q)
wrote_once found p q went = grind (arith, nat_tests, eqb-true, eqb-false, went Call.TryWriteLock RwWriterPlace.TryWrite None (all_of p) (try_write_begins p))

-- who was granted the lock has it
pub granted_has : (call : Call ℕ) (kind : HoldKind) (done : List (Slot ℕ)) (q : Parties ℕ) → Ended call Answer.Success (Some kind) done q → has_hold kind q ≡ true
granted_has call kind done q ended = holding_is rw_writer_model kind done q ended.rests

-- it enters

pub comes_to_enter : (patience : Patience) (seen : ℕ) (done : List (Slot ℕ)) (p : Parties ℕ) → seen < 2 → WriteGoes (write_look patience seen) done p → WriteGoes (After.At (RwWriterPlace.Enter seen patience)) done p
comes_to_enter patience seen done p h1 h2 = grind (arith, nat_tests, eqb-true, eqb-false)

pub may_enter : (patience : Patience) (seen : ℕ) (done : List (Slot ℕ)) (p : Parties ℕ) → WriteGoes (After.At (RwWriterPlace.Enter seen patience)) done p → (put : ℕ) → put ≡ 2 ^ 64 - 1 → TableHas Going 0 (λ w. Intent.Exchange w seen put) p
may_enter patience seen done p at put is = may_exchange Going Call.WriteLock (RwWriterPlace.Enter seen patience) done p seen (2 ^ 64 - 1) put is refl at

-- it marks

pub comes_to_mark : (patience : Patience) (seen : ℕ) (done : List (Slot ℕ)) (p : Parties ℕ) → seen % 2 ≡ 0 → seen ≢ 2 ^ 64 - 2 → WriteGoes (marks_or_spins patience seen) done p → WriteGoes (After.At (RwWriterPlace.Mark seen (seen + 1) patience)) done p
comes_to_mark patience seen done p h1 h2 h3 = grind (arith, nat_tests, eqb-true, eqb-false)

pub may_mark : (patience : Patience) (seen put : ℕ) (done : List (Slot ℕ)) (p : Parties ℕ) → seen % 2 ≡ 0 → seen ≢ 2 ^ 64 - 2 → put ≡ seen + 1 → WriteGoes (marks_or_spins patience seen) done p → TableHas Going 0 (λ w. Intent.Exchange w seen put) p
may_mark patience seen put done p even other is at = may_exchange Going Call.WriteLock (RwWriterPlace.Mark seen (seen + 1) patience) done p seen (seen + 1) put is refl (comes_to_mark patience seen done p even other at)

pub marked : (patience : Patience) (seen found : ℕ) (done : List (Slot ℕ)) (p q : Parties ℕ) → seen % 2 ≡ 0 → seen ≢ 2 ^ 64 - 2 → found ≡ seen → WriteGoes (marks_or_spins patience seen) done p → TableLed Going p found q → WriteGoes (spins patience) done q
marked patience seen found done p q h1 h2 h3 h4 h5 = grind (arith, nat_tests, eqb-true, eqb-false)

pub mark_missed : (patience : Patience) (seen found : ℕ) (done : List (Slot ℕ)) (p q : Parties ℕ) → seen % 2 ≡ 0 → seen ≢ 2 ^ 64 - 2 → found ≢ seen → WriteGoes (marks_or_spins patience seen) done p → TableLed Going p found q →
    WriteGoes (write_look patience found) done q
mark_missed patience seen found done p q h1 h2 h3 h4 h5 = grind (arith, nat_tests, eqb-true, eqb-false)

-- it spins, and then loads the counter and looks a last time

pub spins_on : (n : ℕ) (done : List (Slot ℕ)) (p : Parties ℕ) → n < 10000 → WriteGoes (spins (spun n)) done p → ComesToWrite Going (spun (n + 1)) done p
spins_on n done p h1 h2 = grind (arith, nat_tests, eqb-true, eqb-false)

pub all_spun : (n : ℕ) (done : List (Slot ℕ)) (p : Parties ℕ) → n ≡ 10000 → WriteGoes (spins (spun n)) done p → WriteGoes (After.At (RwWriterPlace.LoadCounter (spun 10000))) done p
all_spun n done p h1 h2 = grind (arith, nat_tests, eqb-true, eqb-false)

pub looked_last : (count found : ℕ) (p q : Parties ℕ) → TableLed Going p found q → (patience : Patience) → GoesFromTo Call.WriteLock (After.At (RwWriterPlace.LastLook count patience)) (last_look count patience found) p q
looked_last count found p q went patience = λ done at. went Call.WriteLock (RwWriterPlace.LastLook count patience) None done at

pub stands : (count seen : ℕ) (patience : Patience) (done : List (Slot ℕ)) (p : Parties ℕ) → is_blocked seen ≡ true → WriteGoes (last_look count patience seen) done p → WriteGoes (After.Waits (RwWriterPlace.WriteLook patience) count) done p
stands count seen patience done p h1 h2 = grind (arith, nat_tests, eqb-true, eqb-false)

pub goes_on : (count seen : ℕ) (patience : Patience) (done : List (Slot ℕ)) (p : Parties ℕ) → is_blocked seen ≡ false → WriteGoes (last_look count patience seen) done p → WriteGoes (write_look patience seen) done p
goes_on count seen patience done p h1 h2 = grind (arith, nat_tests, eqb-true, eqb-false)

-- its closure is asked, with the counter

pub stands_to_wait : (i count : ℕ) (done : List (Slot ℕ)) (p : Parties ℕ) → i ≡ 1 → WriteGoes (After.Waits (RwWriterPlace.WriteLook (spun 10000)) count) done p →
    StandsToWait rw_writer_model (Word.State ∷ Word.Counter ∷ []) rw_writer_handed i count p
stands_to_wait i count done p h1 h2 = grind (arith, nat_tests, eqb-true, eqb-false)

pub continued : (count : ℕ) (done : List (Slot ℕ)) (p : Parties ℕ) → WriteGoes (After.Waits (RwWriterPlace.WriteLook (spun 10000)) count) done p → ComesToWrite (Answered WaitAction.Continue) (spun 10000) done p
continued count done p at = record { stood = RwWriterPlace.WriteLook (spun 10000); told = count; at = at; answered = refl }

pub aborted : (count : ℕ) (done : List (Slot ℕ)) (p : Parties ℕ) → WriteGoes (After.Waits (RwWriterPlace.WriteLook (spun 10000)) count) done p → ComesToGiveUp done p
aborted count done p at = record { stood = RwWriterPlace.WriteLook (spun 10000); told = count; at = at; answered = refl }

-- it gives up

pub comes_to_unmark : (seen : ℕ) (done : List (Slot ℕ)) (p : Parties ℕ) → IsMarked seen → WriteGoes (unmarks_or_leaves seen) done p → WriteGoes (After.At (RwWriterPlace.Unmark seen (seen - 1))) done p
comes_to_unmark seen done p h1 h2 = grind (arith, nat_tests, eqb-true, eqb-false)

pub leaves : (seen : ℕ) (done : List (Slot ℕ)) (p : Parties ℕ) → ¬ IsMarked seen → WriteGoes (unmarks_or_leaves seen) done p → WriteGoes (After.Ends Answer.Interrupted) done p
leaves seen done p h1 h2 = grind (arith, nat_tests, eqb-true, eqb-false)

pub may_unmark : (seen put : ℕ) (done : List (Slot ℕ)) (p : Parties ℕ) → IsMarked seen → put ≡ seen - 1 → WriteGoes (unmarks_or_leaves seen) done p → TableHas Going 0 (λ w. Intent.Exchange w seen put) p
may_unmark seen put done p set is at = may_exchange Going Call.WriteLock (RwWriterPlace.Unmark seen (seen - 1)) done p seen (seen - 1) put is refl (comes_to_unmark seen done p set at)

pub unmarked : (seen found : ℕ) (p q : Parties ℕ) → IsMarked seen → found ≡ seen → TableLed Going p found q → GoesFromTo Call.WriteLock (unmarks_or_leaves seen) (After.At (RwWriterPlace.Count Leaver.GivenUp)) p q
unmarked seen found p q h1 h2 h3 = grind (arith, nat_tests, eqb-true, eqb-false)

pub unmark_missed : (seen found : ℕ) (p q : Parties ℕ) → IsMarked seen → found ≢ seen → TableLed Going p found q → GoesFromTo Call.WriteLock (unmarks_or_leaves seen) (unmarks_or_leaves found) p q
unmark_missed seen found p q h1 h2 h3 = grind (arith, nat_tests, eqb-true, eqb-false)

-- the counter's add, and the wakes

-- who has woken all is answered so
abbrev ended_by : Leaver → Answer ℕ
ended_by Leaver.Reader = Answer.Done
ended_by Leaver.Writer = Answer.Done
ended_by Leaver.GivenUp = Answer.Interrupted

all_woken : (who : Leaver) → woken_all {T = ℕ} who ≡ After.Ends (ended_by who)
all_woken who = grind (arith, nat_tests, eqb-true, eqb-false)

pub both_are_over : (p : Parties ℕ) → IsToWakeBoth p → IsOverAfterTwo rw_writer_model p
both_are_over p both = grind (arith, nat_tests, eqb-true, eqb-false, all_woken both.who)

pub reader_is_over : (p : Parties ℕ) → SomeCallGoes (After.At (RwWriterPlace.WakeOne Leaver.Reader)) p → IsOverAside rw_writer_model p
reader_is_over p goes = record { call = goes.call; place = RwWriterPlace.WakeOne Leaver.Reader; hold = None; done = goes.done; at = goes.at; aside = tt; answer = Answer.Done; ends = refl }

-- `Unlock`

pub may_leave_reading : (p : Parties ℕ) → has_hold HoldKind.Read p ≡ true → TableHas (Continuing Call.Unlock) 0 (λ w. Intent.Subtract w 2) p
may_leave_reading p has = has_step (Continuing Call.Unlock) 0 (λ w. Intent.Subtract w 2) Call.Unlock RwWriterPlace.Release (Some HoldKind.Read) p.resting p Word.State refl refl refl
    (unlock_begins HoldKind.Read p.resting p (holding_told rw_writer_model HoldKind.Read p has))

pub may_leave_writing : (p : Parties ℕ) → has_hold HoldKind.Write p ≡ true → TableHas (Continuing Call.Unlock) 0 (λ w. Intent.Store w 0) p
may_leave_writing p has = has_step (Continuing Call.Unlock) 0 (λ w. Intent.Store w 0) Call.Unlock RwWriterPlace.Release (Some HoldKind.Write) p.resting p Word.State refl refl refl
    (unlock_begins HoldKind.Write p.resting p (holding_told rw_writer_model HoldKind.Write p has))

pub leaves_reading : (found : ℕ) (p q : Parties ℕ) → TableLed (Continuing Call.Unlock) p found q → Unlocks HoldKind.Read (released (Some found)) p q
leaves_reading found p q went = λ done holding. went Call.Unlock RwWriterPlace.Release (Some HoldKind.Read) done (unlock_begins HoldKind.Read done p holding)

pub leaves_writing : (found : ℕ) (p q : Parties ℕ) → TableLed (Continuing Call.Unlock) p found q → Unlocks HoldKind.Write (After.At (RwWriterPlace.Count Leaver.Writer)) p q
leaves_writing found p q went = λ done holding. went Call.Unlock RwWriterPlace.Release (Some HoldKind.Write) done (unlock_begins HoldKind.Write done p holding)

-- what goes on so from the pass that has begun goes on so from the pass before
pub since_begun : (kind : HoldKind) (after : After ℕ RwWriterPlace) (p begun : Pass PlayedRwWriter) (q : Parties ℕ) → begun ≡ p → Unlocks kind after (parties_of begun) q → Unlocks kind after (parties_of p) q
since_begun kind after p begun q is goes = subst (λ (b : Pass PlayedRwWriter). Unlocks kind after (parties_of b) q) is goes

-- the party that had this hold goes on so
pub unlocking : (kind : HoldKind) (after : After ℕ RwWriterPlace) (p q : Parties ℕ) → has_hold kind p ≡ true → Unlocks kind after p q → SomeCallGoes after q
unlocking kind after p q has goes = record { call = Call.Unlock; done = p.resting; at = goes p.resting (holding_told rw_writer_model kind p has) }

comes_to_count : (found : ℕ) (done : List (Slot ℕ)) (q : Parties ℕ) → is_last_reader found ≡ true → CallGoes Call.Unlock (released (Some found)) done q → CallGoes Call.Unlock (After.At (RwWriterPlace.Count Leaver.Reader)) done q
comes_to_count found done q h1 h2 = grind (arith, nat_tests, eqb-true, eqb-false)

pub last_reader : (found : ℕ) (p q : Parties ℕ) → is_last_reader found ≡ true → Unlocks HoldKind.Read (released (Some found)) p q → Unlocks HoldKind.Read (After.At (RwWriterPlace.Count Leaver.Reader)) p q
last_reader found p q is goes = λ done holding. comes_to_count found done q is (goes done holding)

comes_to_wake : (found : ℕ) (done : List (Slot ℕ)) (r : Parties ℕ) → is_last_reader found ≡ true → CallGoes Call.Unlock (After.At (RwWriterPlace.WakeOne Leaver.Reader)) done r → CallGoes Call.Unlock (unlocked HoldKind.Read found) done r
comes_to_wake found done r h1 h2 = grind (arith, nat_tests, eqb-true, eqb-false)

pub wakes_writer : (found last : ℕ) (p q r : Parties ℕ) → is_last_reader found ≡ true → last ≡ found → Unlocks HoldKind.Read (After.At (RwWriterPlace.Count Leaver.Reader)) p q → GoesFromTo Call.Unlock (After.At (RwWriterPlace.Count Leaver.Reader)) (After.At (RwWriterPlace.WakeOne Leaver.Reader)) q r →
    Unlocks HoldKind.Read (unlocked HoldKind.Read last) p r
wakes_writer found last p q r is saw goes on = λ done holding. subst (λ n. CallGoes Call.Unlock (unlocked HoldKind.Read n) done r) (sym saw) (comes_to_wake found done r is (on done (goes done holding)))

-- another reader is answered

ends_reading : (found : ℕ) (done : List (Slot ℕ)) (q : Parties ℕ) → is_last_reader found ≡ false → CallGoes Call.Unlock (released (Some found)) done q → CallGoes Call.Unlock (After.Ends Answer.Done) done q
ends_reading found done q h1 h2 = grind (arith, nat_tests, eqb-true, eqb-false)

pub other_is_over : (found : ℕ) (p q : Parties ℕ) → is_last_reader found ≡ false → has_hold HoldKind.Read p ≡ true → Unlocks HoldKind.Read (released (Some found)) p q → IsOver rw_writer_model q
other_is_over found p q other has goes = is_over rw_writer_model Call.Unlock Answer.Done None p.resting q (ends_reading found p.resting q other (goes p.resting (holding_told rw_writer_model HoldKind.Read p has)))
