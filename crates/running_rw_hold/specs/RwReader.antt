-- What the passes of a reader-preferring lock count, the model that it plays, and that the counts follow the run.
use Rattle.std.specs.Prelude.{◌≡◌, ℕ, ◌-◌, ◌^◌, ◌<◌, ◌==◌, true, if◌then◌else◌, List, ◌∷◌, Option}
use Rattle.model_events.specs.HoldCounts.{reads_in, writes_in}
use Rattle.model_events.specs.Integers.{u64_arithmetic}
use Rattle.model_events.specs.Past.{holds_of, word_in, word_after, Hold, PendingCall}
use Rattle.model_events.specs.Rows.{carried_out}
use Rattle.model_events.specs.Runs.{IsPast}
use Rattle.model_events.specs.Tables.{Table}
use Rattle.model_events.specs.declared.event.Act.{Act}
use Rattle.model_events.specs.declared.event.Call.{Call}
use Rattle.model_events.specs.declared.event.Event.{Event}
use Rattle.model_events.specs.declared.event.Word.{Word}
use Rattle.model_events.specs.declared.hold.HoldKind.{HoldKind}
use Rattle.running_model.specs.Models.{Model}
use Rattle.running_model.specs.Passes.{StaysOnNoWord, GoesOnByActs}
use Rattle.running_model.specs.Sums.{quiet_holds}
use Rattle.std.proofs.Common.{sym, subst, ◌∙◌, arith}
use Rattle.std.proofs.lemmas.Bool.{eqb-true, eqb-false}
use Rattle.std.proofs.lemmas.Bool.Decides.{nat_tests}
use Rattle.running_rw_hold.specs.declared.held.Held.{Held}
use Rattle.running_rw_hold.specs.declared.held.Held.TheVariants.{Free, Writing}
use Rattle.running_rw_hold.specs.Held.{both_held, read_holds, write_holds, reader_in, reader_out, Locks, same_nothing}
use Rattle.model_rw_reader.proofs.AnswerLaws.{keeps_rw_reader}
use Rattle.model_events.proofs.Parties.{at_place}
use Rattle.model_rw_reader.proofs.Laws.{AtRwReader, rw_reader_kept}
use Rattle.model_rw_reader.specs.Law.{KeepsRwReader, CountsHolds}
use Rattle.model_rw_reader.specs.Table.{rw_reader_table, rw_reader_intent}
use Rattle.model_rw_reader.specs.declared.RwReaderPlace.{RwReaderPlace}

-- What a pass counts, and what all passes count together.

-- the holds of a pass of the plain lock, which know nothing
abbrev pub Holds : Type 0
Holds = Held (Unit {0})

abbrev pub no_holds : Holds
no_holds = Free

abbrev pub both_holds : Holds → Holds → Holds
both_holds = both_held same_nothing

-- a read hold is turned on, and off
abbrev pub read : Holds → Holds
read t = reader_in same_nothing tt t

abbrev pub no_more_read : Holds → Holds
no_more_read t = reader_out t

-- the write hold is turned on
abbrev pub written : Holds
written = Writing tt tt

-- what an act makes of a tally: an exchange that is done turns on the write hold, where it fills the word, or a read hold; a subtraction and a
-- store turn them off
abbrev pub held_after : Act ℕ → Call ℕ → Holds → Holds
held_after (Act.Exchange word from to found true) call t = if to == 2 ^ 64 - 1 then written else read t
held_after (Act.Add word old put) call t = no_more_read t
held_after (Act.Store word put) call t = no_holds
held_after act call t = t

-- and what it needs of it: only a hold that is on is turned off
abbrev pub held_needed : Act ℕ → Holds → Type 0
held_needed (Act.Add word old put) t = 0 < read_holds t
held_needed (Act.Store word put) t = write_holds t ≡ 1
held_needed act t = Unit {0}

-- as many holds of each kind stand in the run
pub record AreHoldsIn {V P : Type 0} (t : Table V P) (past : List (Event V)) (counts : Holds) : Type 0 where
  pub reads : read_holds counts ≡ reads_in (holds_of t past)
  pub writes : write_holds counts ≡ writes_in (holds_of t past)

-- The model that it plays.

abbrev pub rw_reader_model : Model ℕ RwReaderPlace
rw_reader_model = record { arithmetic = u64_arithmetic; table = rw_reader_table; law = KeepsRwReader }

-- every run keeps the lock's law
pub rw_reader_lawful : (parties : ℕ) (past : List (Event ℕ)) → IsPast u64_arithmetic rw_reader_table parties past → KeepsRwReader past
rw_reader_lawful parties past run = keeps_rw_reader u64_arithmetic parties past run

-- What the passes count follows the run.

module _ {V P : Type 0} (t : Table V P) where
  pub holds_stay : StaysOnNoWord (AreHoldsIn t)
  holds_stay = grind (arith, nat_tests, eqb-true, eqb-false, quiet_holds)

-- The word counts the holds of the run, and so those of the passes.

pub locks : (w : ℕ) (holds : List Hold) (t : Holds) → CountsHolds w holds → read_holds t ≡ reads_in holds → write_holds t ≡ writes_in holds → Locks w tt t
locks w holds t h1 h2 h3 = grind (arith, nat_tests, eqb-true, eqb-false)

counted : (w : ℕ) (holds : List Hold) (t : Holds) → CountsHolds w holds → Locks w tt t → (read_holds t ≡ reads_in holds) × (write_holds t ≡ writes_in holds)
counted w holds t h1 h2 = grind (arith, nat_tests, eqb-true, eqb-false)

word_fits : (w : ℕ) (holds : List Hold) → CountsHolds w holds → w < 2 ^ 64
word_fits w holds h1 = grind (arith, nat_tests, eqb-true, eqb-false)

-- After each step the word is again what they come to.

-- what all passes but one count, and that one by an act on a word that was w
abbrev LocksAfter : Act ℕ → Call ℕ → ℕ → Holds → Holds → Type 0
LocksAfter act call w t rest = Locks (word_after Word.State act w) tt (both_holds (held_after act call t) rest)

abbrev Goes : Type 0
Goes =
    (place : RwReaderPlace) (c : PendingCall ℕ) (hold : Option HoldKind) (call : Call ℕ) (memory : Word → ℕ) (t rest : Holds) → AtRwReader place c hold → Locks (memory Word.State) tt (both_holds t rest) → memory Word.State < 2 ^ 64 →
    held_needed (carried_out (rw_reader_intent Word.State place hold) memory) t → LocksAfter (carried_out (rw_reader_intent Word.State place hold) memory) call (memory Word.State) t rest

goes_on_by : Goes → GoesOnByActs rw_reader_model both_holds (AreHoldsIn rw_reader_table) (λ _ _. held_after) held_needed
goes_on_by goes call place hold past e found step t rest has is =
    let act = step.act ∙ step.found_is in
    let w : ℕ = word_in rw_reader_table past Word.State in
    let before = step.law.law.counts in
    let at = subst (AtRwReader place step.pending) step.has (at_place u64_arithmetic rw_reader_table step.parties AtRwReader rw_reader_kept past step.run.1 e.party step.pending place step.under_way step.stage) in
    let left = subst (λ (a : Act ℕ). LocksAfter a call w t rest) (sym act)
    (goes place step.pending hold call (word_in rw_reader_table past) t rest at (locks w (holds_of rw_reader_table past) (both_holds t rest) before is.reads is.writes) (word_fits w (holds_of rw_reader_table past) before) (subst (λ (a : Act ℕ). held_needed a t) act has)) in
    let both = counted (word_in rw_reader_table (e ∷ past) Word.State) (holds_of rw_reader_table (e ∷ past)) (both_holds (held_after e.act call t) rest) (rw_reader_lawful step.parties (e ∷ past) step.run).law.counts left in
    record { reads = both.0; writes = both.1 }

pub holds_go_on : GoesOnByActs rw_reader_model both_holds (AreHoldsIn rw_reader_table) (λ _ _. held_after) held_needed
holds_go_on = goes_on_by goes
  where
    goes : Goes
    goes place c hold call memory t rest h1 h2 h3 h4 = grind (arith, nat_tests, eqb-true, eqb-false)
