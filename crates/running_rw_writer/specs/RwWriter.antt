-- What the passes of a writer-preferring lock count, the model that it plays, and that the counts follow the run.
use Rattle.model_events.specs.HoldCounts.{reads_in, writes_in}
use Rattle.model_events.specs.Integers.{u64_arithmetic}
use Rattle.model_events.specs.Past.{word_in, word_after, hold_of, Hold, PendingCall, call_of, holds_of}
use Rattle.model_events.specs.Rows.{carried_out}
use Rattle.model_events.specs.Runs.{IsPast}
use Rattle.model_events.specs.declared.event.Act.{Act}
use Rattle.model_events.specs.declared.event.Call.{Call}
use Rattle.model_events.specs.declared.event.Event.{Event}
use Rattle.model_events.specs.declared.event.Word.{Word}
use Rattle.model_events.specs.declared.hold.HoldKind.{HoldKind}
use Rattle.model_events.specs.declared.row.Intent.{Intent}
use Rattle.running_model.specs.Models.{Model}
use Rattle.running_model.specs.Passes.{StaysOnNoWord, GoesOnByActs}
use Rattle.running_model.specs.Sums.{grants_in, grants_by, same_grants, next_grants}
use Rattle.running_passes.specs.Tallies.{IsTally}
use Rattle.std.proofs.Common.{◌≡◌, ℕ, ◌+◌, ◌-◌, ◌*◌, ◌^◌, ◌<◌, ◌≤◌, ◌==◌, true, false, if◌then◌else◌, List, ◌%◌, Bool, [], ◌∷◌, Option, Some, inl, inr, refl, sym, subst, ◌∙◌, arith}
use Rattle.std.proofs.lemmas.Bool.{eqb-true, eqb-false}
use Rattle.std.proofs.lemmas.Bool.Decides.{nat_tests}
use Rattle.running_passes.specs.declared.part.Sights.{Sights}
use Rattle.running_passes.specs.Sights.{seen, seen_instead, stale}
use Rattle.running_rw_hold.specs.declared.held.Held.TheVariants.{Writing}
use Rattle.running_rw_writer.specs.declared.marked.MarkedHolds.{MarkedHolds}
use Rattle.running_rw_hold.specs.Held.{read_holds, write_holds, Knows, reader_in, reader_out, same_nothing}
use Rattle.running_rw_hold.specs.RwReader.{Holds, no_holds, both_holds, AreHoldsIn}
use Rattle.model_events.specs.declared.event.Wake.{Wake}
use Rattle.model_rw_writer.specs.declared.RwWriterPlace.{RwWriterPlace}
use Rattle.model_rw_writer.proofs.Causes.{keeps_rw_writer}
use Rattle.model_rw_writer.specs.Law.{CountsHolds, has_mark, KeepsRwWriter}
use Rattle.model_rw_writer.proofs.WordLaws.{IsExchange, IsWriterIntent}
use Rattle.model_rw_writer.proofs.PlaceLaws.{writer_intent, here}
use Rattle.model_rw_writer.specs.Marks.{is_marked_after}
use Rattle.model_rw_writer.specs.Table.{rw_writer_table, rw_writer_woken}

-- What a pass counts, and what all passes count together.

abbrev pub marked : Holds → ℕ → ℕ → ℕ → MarkedHolds
marked held flags read_grants write_grants = record { held = held; flags = flags; read_grants = read_grants; write_grants = write_grants }

abbrev pub nothing_marked : MarkedHolds
nothing_marked = marked no_holds 0 0 0

abbrev pub both_marked : MarkedHolds → MarkedHolds → MarkedHolds
both_marked t u = marked (both_holds t.held u.held) (t.flags + u.flags) (t.read_grants + u.read_grants) (t.write_grants + u.write_grants)

-- a read hold is turned on, and off
abbrev pub read : MarkedHolds → MarkedHolds
read t = marked (reader_in same_nothing tt t.held) t.flags (t.read_grants + 1) t.write_grants

abbrev pub no_more_read : MarkedHolds → MarkedHolds
no_more_read t = marked (reader_out t.held) t.flags t.read_grants t.write_grants

-- the write hold is turned on, and off
abbrev pub written : MarkedHolds → MarkedHolds
written t = marked (Writing tt tt) 0 t.read_grants (t.write_grants + 1)

abbrev pub no_more_written : MarkedHolds → MarkedHolds
no_more_written t = marked no_holds t.flags t.read_grants t.write_grants

-- the flag is up, or down
abbrev pub flagged : ℕ → MarkedHolds → MarkedHolds
flagged flags t = marked t.held flags t.read_grants t.write_grants

-- a writer has seen this: where the mark is not set, its flag is down
abbrev pub lowered : ℕ → MarkedHolds → MarkedHolds
lowered found t = if has_mark found then t else flagged 0 t

-- What an act on the lock's word makes of a tally. An exchange for two more turns a read hold on, one for 2 ^ 64 - 1 the write hold; one for one
-- more puts the flag up, and one for one less puts it down. A subtraction and a store turn a hold off.
abbrev pub marked_after : Act ℕ → Call ℕ → MarkedHolds → MarkedHolds
marked_after (Act.Load Word.State found) Call.WriteLock t = lowered found t
marked_after (Act.Exchange Word.State from to found true) call t = if to == from + 2 then read t else (if to == 2 ^ 64 - 1 then written t else flagged (if to == from + 1 then 1 else 0) t)
marked_after (Act.Exchange Word.State from to found false) call t = if to == from + 2 then t else lowered found t
marked_after (Act.Add Word.State old put) call t = no_more_read t
marked_after (Act.Store Word.State put) call t = no_more_written t
marked_after act call t = t

-- and what it needs of it: only a hold that is on is turned off
abbrev pub marked_needed : Act ℕ → MarkedHolds → Type 0
marked_needed (Act.Add Word.State old put) t = 0 < read_holds t.held
marked_needed (Act.Store Word.State put) t = write_holds t.held ≡ 1
marked_needed act t = Unit {0}

-- What it makes of what its pass saw. The wake counter is not what decides: a load of it is no sight, and an add to it no write. A reader that
-- leaves sees the word.
abbrev pub marked_sees : Act ℕ → Sights → Sights
marked_sees (Act.Load Word.State found) s = seen s found
marked_sees (Act.Exchange Word.State from to found false) s = seen_instead s from found
marked_sees (Act.Exchange Word.State from to found true) s = stale s
marked_sees (Act.Store Word.State put) s = stale s
marked_sees (Act.Add Word.State old put) s = stale (seen s old)
marked_sees act s = s

-- so many holds of each kind stand in the run, and were granted in it; and where the mark is set, a flag is up
pub record AreMarkedIn (past : List (Event ℕ)) (t : MarkedHolds) : Type 0 where
  pub holds : AreHoldsIn rw_writer_table past t.held
  pub flagged : is_marked_after past ≡ true → 0 < t.flags
  pub reads : t.read_grants ≡ grants_in rw_writer_table HoldKind.Read past
  pub writes : t.write_grants ≡ grants_in rw_writer_table HoldKind.Write past

-- The word is twice the number of read holds and a mark of 0 or 1, or 2 ^ 64 - 1 with a write hold, beside which no hold stands and no mark.
-- Where there is a mark, a flag is up.
pub record IsMarkedOrHeld (word : ℕ) (t : MarkedHolds) : Type 0 where
  pub mark : ℕ
  pub word_is : word ≡ 2 * read_holds t.held + mark + write_holds t.held * (2 ^ 64 - 1)
  pub one_mark : mark + write_holds t.held ≤ 1
  pub flagged : mark ≤ t.flags
  pub room : read_holds t.held < 2 ^ 63 - 1
  pub knows : Knows tt t.held

-- The model that it plays.

abbrev pub rw_writer_model : Model ℕ RwWriterPlace
rw_writer_model = record { arithmetic = u64_arithmetic; table = rw_writer_table; law = KeepsRwWriter }

-- every run keeps the lock's law
pub rw_writer_lawful : (parties : ℕ) (past : List (Event ℕ)) → IsPast u64_arithmetic rw_writer_table parties past → KeepsRwWriter past
rw_writer_lawful parties past run = keeps_rw_writer u64_arithmetic parties past run

-- a wake is of the word that the model says; a writer waits on that of the wake of one, a reader on that of the wake of all
abbrev pub rw_writer_handed : RwWriterPlace → Word
rw_writer_handed (RwWriterPlace.WriteLook patience) = rw_writer_woken Wake.One
rw_writer_handed (RwWriterPlace.WakeOne who) = rw_writer_woken Wake.One
rw_writer_handed (RwWriterPlace.WakeAll who) = rw_writer_woken Wake.All
rw_writer_handed (RwWriterPlace.ReadLook patience) = rw_writer_woken Wake.All
rw_writer_handed place = Word.State

-- What the passes count adds up, and follows the run.

pub marked_add_up : IsTally nothing_marked both_marked (λ _. nothing_marked)
marked_add_up = grind (arith, nat_tests, eqb-true, eqb-false)

pub marks_stay : StaysOnNoWord AreMarkedIn
marks_stay = grind (arith, nat_tests, eqb-true, eqb-false, same_grants)

pub marks_open : AreMarkedIn [] nothing_marked
marks_open = record { holds = record { reads = refl; writes = refl }; flagged = λ set. absurd cc; reads = refl; writes = refl }

-- The word counts the holds of the run and the mark, and so those of the passes.

held_so : (w : ℕ) (hs : List Hold) (set : Bool) (t : MarkedHolds) → CountsHolds w hs set → read_holds t.held ≡ reads_in hs → write_holds t.held ≡ writes_in hs → (set ≡ true → 0 < t.flags) → IsMarkedOrHeld w t
held_so w hs set t h1 h2 h3 h4 = grind (arith, nat_tests, eqb-true, eqb-false)

-- of a run that keeps the lock's law
pub held_in : (past : List (Event ℕ)) (t : MarkedHolds) → KeepsRwWriter past → AreMarkedIn past t → IsMarkedOrHeld (word_in rw_writer_table past Word.State) t
held_in past t law is = held_so (word_in rw_writer_table past Word.State) (holds_of rw_writer_table past) (is_marked_after past) t law.law.counts is.holds.reads is.holds.writes is.flagged

counted_so : (w : ℕ) (hs : List Hold) (set : Bool) (t : MarkedHolds) → CountsHolds w hs set → IsMarkedOrHeld w t → (read_holds t.held ≡ reads_in hs) × (write_holds t.held ≡ writes_in hs) × (set ≡ true → 0 < t.flags)
counted_so w hs set t h1 h2 = grind (arith, nat_tests, eqb-true, eqb-false)

-- After each step it is again what they come to.

-- what all passes but one count, and that one by an act on a word that was w
abbrev MarkedAfter : Act ℕ → Call ℕ → ℕ → MarkedHolds → MarkedHolds → Type 0
MarkedAfter act call w t rest = IsMarkedOrHeld (word_after Word.State act w) (both_marked (marked_after act call t) rest)

abbrev Goes : Type 0
Goes =
    (intent : Intent ℕ) (c : PendingCall ℕ) (hold : Option HoldKind) (call : Call ℕ) (memory : Word → ℕ) (t rest : MarkedHolds) → IsWriterIntent c.call hold intent → IsMarkedOrHeld (memory Word.State) (both_marked t rest) →
    marked_needed (carried_out intent memory) t → MarkedAfter (carried_out intent memory) call (memory Word.State) t rest

-- and grants are counted as they are made
abbrev GrantsMore : Type 0
GrantsMore =
    (intent : Intent ℕ) (c : PendingCall ℕ) (hold : Option HoldKind) (call : Call ℕ) (memory : Word → ℕ) (t : MarkedHolds) (act : Act ℕ) (k : Option (PendingCall ℕ)) → IsWriterIntent c.call hold intent → act ≡ carried_out intent memory → k ≡ Some c →
    ((marked_after act call t).read_grants ≡ grants_by rw_writer_table HoldKind.Read act k + t.read_grants) × ((marked_after act call t).write_grants ≡ grants_by rw_writer_table HoldKind.Write act k + t.write_grants)

goes_on_by : Goes → GrantsMore → GoesOnByActs rw_writer_model both_marked AreMarkedIn (λ _ _. marked_after) marked_needed
goes_on_by goes grants_more call place hold past e found step t rest has is =
    let act = step.act ∙ step.found_is in
    let intent : Intent ℕ = rw_writer_table.intent place hold in
    let memory = word_in rw_writer_table past in
    let at = subst (λ h. IsWriterIntent step.pending.call h (rw_writer_table.intent place h)) step.has (writer_intent place step.pending (hold_of rw_writer_table e.party past) (here u64_arithmetic step.parties past step.run.1 e.party step.pending place step.under_way step.stage)) in
    let left = subst (λ (a : Act ℕ). MarkedAfter a call (memory Word.State) t rest) (sym act) (goes intent step.pending hold call memory t rest at (held_in past (both_marked t rest) step.law is) (subst (λ (a : Act ℕ). marked_needed a t) act has)) in
    let both = counted_so (word_in rw_writer_table (e ∷ past) Word.State) (holds_of rw_writer_table (e ∷ past)) (is_marked_after (e ∷ past)) (both_marked (marked_after e.act call t) rest) (rw_writer_lawful step.parties (e ∷ past) step.run).law.counts left in
    let more = grants_more intent step.pending hold call memory t e.act (call_of e.party past) at act step.under_way in
    record {
      holds = record { reads = both.0; writes = both.1 };
      flagged = both.2;
      reads = next_grants rw_writer_table HoldKind.Read past e t.read_grants (marked_after e.act call t).read_grants rest.read_grants more.0 is.reads;
      writes = next_grants rw_writer_table HoldKind.Write past e t.write_grants (marked_after e.act call t).write_grants rest.write_grants more.1 is.writes;
    }

pub marks_go_on : GoesOnByActs rw_writer_model both_marked AreMarkedIn (λ _ _. marked_after) marked_needed
marks_go_on = goes_on_by goes grants_more
  where
    sees_again : (w : ℕ) (t rest : MarkedHolds) → IsMarkedOrHeld w (both_marked t rest) → IsMarkedOrHeld w (both_marked (lowered w t) rest)
    sees_again w t rest h1 = grind (arith, nat_tests, eqb-true, eqb-false)

    reads_off : (w : ℕ) (t rest : MarkedHolds) → IsMarkedOrHeld w (both_marked t rest) → 0 < read_holds t.held → IsMarkedOrHeld ((w + (2 ^ 64 - 2)) % 2 ^ 64) (both_marked (no_more_read t) rest)
    reads_off w t rest h1 h2 = grind (arith, nat_tests, eqb-true, eqb-false)

    writes_off : (w : ℕ) (t rest : MarkedHolds) → IsMarkedOrHeld w (both_marked t rest) → write_holds t.held ≡ 1 → IsMarkedOrHeld 0 (both_marked (no_more_written t) rest)
    writes_off w t rest h1 h2 = grind (arith, nat_tests, eqb-true, eqb-false)

    exchanges : (call by : Call ℕ) (from to w : ℕ) (t rest : MarkedHolds) (done : Bool) → (w == from) ≡ done → IsExchange by from to → IsMarkedOrHeld w (both_marked t rest) → MarkedAfter (Act.Exchange Word.State from to w done) call w t rest
    exchanges call by from to w t rest false h1 h2 h3 = grind (arith, nat_tests, eqb-true, eqb-false)
    exchanges call by from to w t rest true h1 (inl h2) h3 = grind (arith, nat_tests, eqb-true, eqb-false)
    exchanges call by from to w t rest true h1 (inr (inl h2)) h3 = grind (arith, nat_tests, eqb-true, eqb-false)
    exchanges call by from to w t rest true h1 (inr (inr (inl h2))) h3 = record { mark = 1; word_is = grind (arith, nat_tests, eqb-true, eqb-false); one_mark = grind (arith, nat_tests, eqb-true, eqb-false); flagged = grind (arith, nat_tests, eqb-true, eqb-false); room = grind (arith, nat_tests, eqb-true, eqb-false); knows = grind (arith, nat_tests, eqb-true, eqb-false) }
    exchanges call by from to w t rest true h1 (inr (inr (inr h2))) h3 = record { mark = 0; word_is = grind (arith, nat_tests, eqb-true, eqb-false); one_mark = grind (arith, nat_tests, eqb-true, eqb-false); flagged = grind (arith, nat_tests, eqb-true, eqb-false); room = grind (arith, nat_tests, eqb-true, eqb-false); knows = grind (arith, nat_tests, eqb-true, eqb-false) }

    goes : Goes
    goes (Intent.Exchange Word.State from to) c hold call memory t rest may is has = exchanges call c.call from to (memory Word.State) t rest (memory Word.State == from) refl may.1 is
    goes (Intent.Load Word.State) c hold Call.WriteLock memory t rest may is has = sees_again (memory Word.State) t rest is
    goes intent c hold call memory t rest h1 h2 h3 = grind (arith, nat_tests, eqb-true, eqb-false, reads_off, writes_off)

    grants_more : GrantsMore
    grants_more intent c hold call memory t act k h1 h2 h3 = grind (arith, nat_tests, eqb-true, eqb-false)
