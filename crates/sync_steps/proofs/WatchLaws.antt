-- What a wait closure is told is what its call saw last of the word that it watches.
use Rattle.sync_steps.specs.Names.{MatchOption, Act, Call, Event, Object, Then, Word, HoldKind, Patience, After, Arithmetic, stage_of, seen_by, PendingCall, call_of, hold_of, word_in, event, carried_out, value_told, sight_of, is_sight, last_of, Table}
use Rattle.sync_steps.specs.Objects.{RwWriterPlace, rw_writer_table, rw_writer_intent, rw_writer_after, last_look, CondvarPlace, condvar_table, condvar_intent, condvar_after, refused_by}
use Rattle.sync_steps.proofs.Names.{◌≡◌, refl, sym, ◌∙◌, ap, subst, ℕ, true, cond, is_some, List, ◌∷◌, Option, Some, None, ◌⊎◌, inl, inr, arith, nat_tests, eqb-true, eqb-false, Place, table_of, IsPast, place_in, watched_word, SawLast}
use Rattle.model_events.specs.Asks.{Refusing, TellsRefusal, sight_at}
use Rattle.model_events.specs.Runs as runs
use Rattle.model_events.proofs.Parties.{IsKept, at_place}

-- what is to be shown of the step that left the call at its closure
abbrev pub WhereAStepWaits : {T P : Type 0} → Table T P → (P → Word) → List (Event T) → Event T → Type 0
WhereAStepWaits {T} {P} t watched past e =
    (c : PendingCall T) (place next : P) (told : ℕ) → call_of e.party past ≡ Some c → stage_of t c ≡ Some place → e.act ≡ carried_out (t.intent place (hold_of t e.party past)) (word_in t past) → e.then ≡ Then.Waits told →
    t.after place (value_told (carried_out (t.intent place (hold_of t e.party past)) (word_in t past))) ≡ After.Waits next told → SawLast (watched next) (e ∷ c.own) told

pub watches :
    {T P : Type 0} (z : Arithmetic T) (t : Table T P) (parties : ℕ) (watched : P → Word) (past : List (Event T)) (e : Event T) → runs.IsPast z t parties (e ∷ past) → WhereAStepWaits t watched past e →
    (told : ℕ) (c : PendingCall T) (place : P) → e.then ≡ Then.Waits told → call_of e.party (e ∷ past) ≡ Some c → stage_of t c ≡ Some place → SawLast (watched place) c.own told
watches z t parties watched past e h1 h2 told c place h3 h4 h5 = grind (arith, nat_tests, eqb-true, eqb-false)

-- The sight is that of the step itself, where what refused the call is told,

asked :
    {T : Type 0} (refusing : Refusing T) (past : List (Event T)) (e : Event T) (c : PendingCall T) (told : ℕ) → TellsRefusal refusing (e ∷ past) → call_of e.party past ≡ Some c → e.then ≡ Then.Waits told →
    refusing c.call c.own e.act ≡ Some told
asked refusing past e c told h1 h2 h3 = grind (arith, nat_tests, eqb-true, eqb-false)

saw_now : {T : Type 0} (word : Word) (e : Event T) (own : List (Event T)) (told : ℕ) → sight_of word e.act ≡ Some told → SawLast word (e ∷ own) told
saw_now word e own told is = subst (λ (s : Option ℕ). seen_by word (cond (is_some s) (Some e.act) (last_of (is_sight word) own)) ≡ Some told) (sym is) is

-- as of most objects that is what a step saw of the lock's word;

pub state_rows : {T P : Type 0} (t : Table T P) (past : List (Event T)) (e : Event T) → TellsRefusal (sight_at Word.State) (e ∷ past) → WhereAStepWaits t (λ place. Word.State) past e
state_rows t past e tells c place next told was at acted waits leads = saw_now Word.State e c.own told (asked (sight_at Word.State) past e c told tells was waits)

-- and some ask no closure.

pub none_rows : {T P : Type 0} (t : Table T P) (watched : P → Word) (past : List (Event T)) (e : Event T) → ((place next : P) (x : Option ℕ) (told : ℕ) → t.after place x ≡ After.Waits next told → ⊥) → WhereAStepWaits t watched past e
none_rows t watched past e asks_none c place next told was at acted waits leads = absurd (asks_none place next _ told leads)

-- A writer's last look tells no count: that was loaded before it.

abbrev count_at : RwWriterPlace → Option ℕ
count_at (RwWriterPlace.LastLook count patience) = Some count
count_at place = None

abbrev AtCount : {T : Type 0} → RwWriterPlace → PendingCall T → Option HoldKind → Type 0
AtCount place c hold = MatchOption (count_at place) (Unit {0}) (λ count. SawLast Word.Counter c.own count)

-- the step at a place of the lock
abbrev act_at : {T : Type 0} → RwWriterPlace → Option HoldKind → (Word → ℕ) → Act T
act_at place hold memory = carried_out (rw_writer_intent Word.State Word.Counter place hold) memory

abbrev after_at : {T : Type 0} → RwWriterPlace → Option HoldKind → (Word → ℕ) → After T RwWriterPlace
after_at {T} place hold memory = rw_writer_after place (value_told {T = T} (act_at place hold memory))

writer_told : {T : Type 0} (place next : RwWriterPlace) (hold : Option HoldKind) (memory : Word → ℕ) (told : ℕ) → after_at {T = T} place hold memory ≡ After.Waits next told → count_at place ≡ None →
    sight_of {T = T} (watched_word {T = T} Object.WriterLock (Place.RwWriter next)) (act_at place hold memory) ≡ Some told
writer_told place next hold memory told is none = grind (arith, nat_tests)

writer_counted : {T : Type 0} (place next : RwWriterPlace) (hold : Option HoldKind) (memory : Word → ℕ) (told count : ℕ) → after_at {T = T} place hold memory ≡ After.Waits next told → count_at place ≡ Some count → count ≡ told
writer_counted place next hold memory told count is some = grind (arith, nat_tests)

last_waits : {T : Type 0} (count v told : ℕ) (patience : Patience) (next : RwWriterPlace) → last_look {T = T} count patience v ≡ After.Waits next told → watched_word {T = T} Object.WriterLock (Place.RwWriter next) ≡ Word.Counter
last_waits count v told patience next is = grind (arith, nat_tests)

abbrev patience_at : RwWriterPlace → Patience
patience_at (RwWriterPlace.LastLook count patience) = patience
patience_at place = record { spins = 0; keep = true }

is_last : (place : RwWriterPlace) (count : ℕ) → count_at place ≡ Some count → place ≡ RwWriterPlace.LastLook count (patience_at place)
is_last place count is = grind arith

writer_watches : {T : Type 0} (place next : RwWriterPlace) (hold : Option HoldKind) (memory : Word → ℕ) (told count : ℕ) → after_at {T = T} place hold memory ≡ After.Waits next told → count_at place ≡ Some count →
    (watched_word {T = T} Object.WriterLock (Place.RwWriter next) ≡ Word.Counter)
writer_watches {T} place next hold memory told count is some =
    last_waits {T = T} count (memory Word.State) told (patience_at place) next (subst (λ p. after_at {T = T} p hold memory ≡ After.Waits next told) (is_last place count some) is)

writer_looks : {T : Type 0} (place : RwWriterPlace) (hold : Option HoldKind) (memory : Word → ℕ) (count : ℕ) → count_at place ≡ Some count → act_at {T = T} place hold memory ≡ Act.Load Word.State (memory Word.State)
writer_looks place hold memory count some = grind arith

count_kept : {T : Type 0} → IsKept {T = T} rw_writer_table AtCount
count_kept = grind (arith, nat_tests, eqb-true, eqb-false)

-- A wait at a condition variable is refused by the permits, and later by the mutex's word: each time by the word that it has just seen.

refused_by_sight : {T : Type 0} (call : Call T) (own : List (Event T)) (act : Act T) (told : ℕ) → refused_by call own act ≡ Some told → (sight_of Word.State act ≡ Some told) ⊎ (sight_of Word.Value act ≡ Some told)
refused_by_sight call own act told is = grind arith

watches_mutex : {T : Type 0} (place next : CondvarPlace) (memory : Word → ℕ) (told seen : ℕ) → condvar_after {T = T} place (value_told {T = T} (carried_out (condvar_intent place) memory)) ≡ After.Waits next told →
    sight_of {T = T} Word.State (carried_out (condvar_intent place) memory) ≡ Some seen → watched_word {T = T} Object.Condvar (Place.Condvar next) ≡ Word.State
watches_mutex place next memory told seen is sees = grind (arith, nat_tests)

watches_permits : {T : Type 0} (place next : CondvarPlace) (memory : Word → ℕ) (told seen : ℕ) → condvar_after {T = T} place (value_told {T = T} (carried_out (condvar_intent place) memory)) ≡ After.Waits next told →
    sight_of {T = T} Word.Value (carried_out (condvar_intent place) memory) ≡ Some seen → watched_word {T = T} Object.Condvar (Place.Condvar next) ≡ Word.Value
watches_permits place next memory told seen is sees = grind (arith, nat_tests)

pub writer_rows : {T : Type 0} (z : Arithmetic T) (parties : ℕ) (past : List (Event T)) (e : Event T) → IsPast z Object.WriterLock parties (e ∷ past) → WhereAStepWaits {T = T} (table_of z Object.WriterLock) (λ place. watched_word {T = T} Object.WriterLock (place_in {T = T} Object.WriterLock place)) past e
writer_rows {T} z parties past e run c place next told was at acted waits leads = by_count (count_at place) refl
  where
    hold : Option HoldKind
    hold = hold_of {T = T} rw_writer_table e.party past

    memory : Word → ℕ
    memory = word_in {T = T} rw_writer_table past

    Saw : Word → Type 0
    Saw word = SawLast word (e ∷ c.own) told

    by_count : (count : Option ℕ) → count_at place ≡ count → Saw (watched_word {T = T} Object.WriterLock (Place.RwWriter next))
    by_count None none = saw_now _ e c.own told (ap (sight_of (watched_word {T = T} Object.WriterLock (Place.RwWriter next))) acted ∙ writer_told place next hold memory told leads none)
    by_count (Some count) some =
        let kept : AtCount place c hold = at_place z rw_writer_table parties AtCount count_kept past run.1.1 e.party c place was at in
        let saw : SawLast Word.Counter c.own count = subst (λ (k : Option ℕ). MatchOption k (Unit {0}) (λ n. SawLast Word.Counter c.own n)) some kept in
        let later : SawLast Word.Counter (e ∷ c.own) count = subst (λ (act : Act T). SawLast Word.Counter (event e.party act e.then ∷ c.own) count) (sym (acted ∙ writer_looks place hold memory count some)) saw in
        subst Saw (sym (writer_watches place next hold memory told count leads some)) (subst (λ n. SawLast Word.Counter (e ∷ c.own) n) (writer_counted place next hold memory told count leads some) later)

pub condvar_rows : {T : Type 0} (z : Arithmetic T) (past : List (Event T)) (e : Event T) → TellsRefusal refused_by (e ∷ past) → WhereAStepWaits {T = T} (table_of z Object.Condvar) (λ place. watched_word {T = T} Object.Condvar (place_in {T = T} Object.Condvar place)) past e
condvar_rows {T} z past e tells c place next told was at acted waits leads = by_sight (refused_by_sight c.call c.own e.act told (asked refused_by past e c told tells was waits))
  where
    memory : Word → ℕ
    memory = word_in {T = T} condvar_table past

    by_sight : (sight_of Word.State e.act ≡ Some told) ⊎ (sight_of Word.Value e.act ≡ Some told) → SawLast (watched_word {T = T} Object.Condvar (Place.Condvar next)) (e ∷ c.own) told
    by_sight (inl saw) = subst (λ word. SawLast word (e ∷ c.own) told) (sym (watches_mutex {T = T} place next memory told told leads (ap (sight_of Word.State) (sym acted) ∙ saw))) (saw_now Word.State e c.own told saw)
    by_sight (inr saw) = subst (λ word. SawLast word (e ∷ c.own) told) (sym (watches_permits {T = T} place next memory told told leads (ap (sight_of Word.Value) (sym acted) ∙ saw))) (saw_now Word.Value e c.own told saw)
