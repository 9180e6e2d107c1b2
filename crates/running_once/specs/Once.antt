-- What the passes of a once count and know, the model that a once plays, the rule over all passes, and that the counts follow the run.
use Rattle.std.specs.Prelude.{ℕ, List, slice_index, ◌≡◌, ◌+◌, ◌*◌, ◌≤◌, Bool, true, false, ◌||◌, ◌==◌, [], ◌∷◌}
use Rattle.running_once.specs.Names.{Event, OncePlace, once_table, KeepsOnce, u64_arithmetic, Model, IsPast, keeps_once, Word, Call, Act, begins_in, ends_in, View, IsWhole, total, view_of, looked, IsCounted, sum_of, Played, none_played, both_played, PlaysAndCounts, IsOfARun, some, get_elem?, State, word_in, acts_in, Runs, OnceScript, cond, refl, ◌∙◌, arith, eqb-true, eqb-false, nat_tests, word_after, carried_out, once_intent, is_begin, is_end, StaysOnNoWord, GoesOnByActs, IsTally}

-- The model that it plays.

abbrev pub once_model : Model ℕ OncePlace
once_model = record { arithmetic = u64_arithmetic; table = once_table; law = KeepsOnce }

-- every run keeps the once's law
pub once_lawful : (parties : ℕ) (past : List (Event ℕ)) → IsPast u64_arithmetic once_table parties past → KeepsOnce past
once_lawful parties past run = keeps_once u64_arithmetic parties past run

-- What a pass counts and knows, and what all passes do together.

abbrev pub runs : ℕ → ℕ → Bool → Runs
runs running ended complete = record { running = running; ended = ended; complete = complete }

abbrev pub no_runs : Runs
no_runs = runs 0 0 false

abbrev pub both_runs : Runs → Runs → Runs
both_runs t u = runs (t.running + u.running) (t.ended + u.ended) (t.complete || u.complete)

-- what a copy keeps: whether a closure is known to have ended
abbrev pub known_runs : Runs → Runs
known_runs t = runs 0 0 t.complete

-- what a tally says of the word, where no other pass has counted anything
abbrev pub Amounts : ℕ → Runs → Type 0
Amounts word t = word ≡ t.running + 2 * t.ended

-- a store of the word completes the once
abbrev pub is_completion : Act ℕ → Bool
is_completion (Act.Store Word.State put) = true
is_completion act = false

-- What the run says of it: so many closures began, and so many calls stored that theirs had ended. The end itself comes just before, on no
-- word, so each of them stands in the run. The word is 0 where none began, 1 while one runs, 2 once it has ended; and where a pass knows that
-- one ended, it did.
pub record AreRuns (held begins completions ends : ℕ) (t : Runs) : Type 0 where
  pub word : Amounts held t
  pub begun : t.running + t.ended ≡ begins
  pub completed : t.ended ≡ completions
  pub over : t.ended ≤ ends
  pub known : t.complete ≡ true → t.ended ≡ 1

abbrev pub AreRunsIn : List (Event ℕ) → Runs → Type 0
AreRunsIn past = AreRuns (word_in once_table past Word.State) (begins_in past) (acts_in is_completion past) (ends_in past)

-- what the pass of a once is in its model, and knows
abbrev pub OnceView : Type 0
OnceView = View (Played OnceScript OncePlace ℕ Runs)

-- the rule of a once holds
abbrev pub IsRuled : State (Unit {0}) OnceView → Type 0
IsRuled s = IsCounted (none_played no_runs) (both_played both_runs) (PlaysAndCounts once_model (Word.State ∷ []) (λ _ _ _. Unit {0}) AreRunsIn) s

-- whenever it does, all passes are the parties of a run, and began as many closures as calls did in it, and completed as many
abbrev pub ClosuresAreOfARun : Type 0
ClosuresAreOfARun = (s : State (Unit {0}) OnceView) → IsRuled s → IsOfARun once_model AreRunsIn (sum_of (none_played no_runs) (both_played both_runs) s.views)

-- and all passes together began one closure at most
abbrev pub OneClosure : Type 0
OneClosure = (s : State (Unit {0}) OnceView) → IsRuled s → total (λ u. u.tally.counts.running + u.tally.counts.ended) s.views ≤ 1

-- whenever it does, and a pass knows that a closure has ended, one of all passes' has
abbrev pub KnownHasEnded : Type 0
KnownHasEnded = (s : State (Unit {0}) OnceView) → IsRuled s → (i : ℕ) (v : OnceView) → get_elem? s.views i ≡ some v → v.tally.counts.complete ≡ true → total (λ u. u.tally.counts.ended) s.views ≡ 1

-- and the word is what they counted together come to: 0 where none began, 1 while one runs, 2 once it has ended
abbrev pub WordTellsClosures : Type 0
WordTellsClosures = (s : State (Unit {0}) OnceView) → IsRuled s → Amounts (slice_index s.words 0) (sum_of (none_played no_runs) (both_played both_runs) s.views).counts

-- at 2 the pass knows that a closure has ended
abbrev pub sees : ℕ → Runs → Runs
sees found t = runs t.running t.ended (t.complete || (found == 2))

abbrev pub learns : ℕ → View Runs → View Runs
learns found v = view_of v.part v.sights (sees found v.tally)

-- a closure begins, and ends
abbrev pub began : Runs → Runs
began t = runs 1 t.ended t.complete

abbrev pub ended : Runs → Runs
ended t = runs 0 (t.ended + 1) true

-- what an act makes of a tally: an exchange that is done begins a closure, and a store ends it; the others see the word
abbrev pub runs_after : Act ℕ → Call ℕ → Runs → Runs
runs_after (Act.Load word found) call t = sees found t
runs_after (Act.Exchange word from to found false) call t = sees found t
runs_after (Act.Exchange word from to found true) call t = began t
runs_after (Act.Store word put) call t = ended t
runs_after act call t = t

-- and what it needs of it: only a closure that runs is ended
abbrev pub runs_needed : Act ℕ → Runs → Type 0
runs_needed (Act.Store word put) t = t.running ≡ 1
runs_needed act t = Unit {0}

-- What the word says. Where no other pass is left, it is what this one did.
pub record Says (v : View Runs) (found : ℕ) : Type 0 where
  pub known : v.tally.complete ≡ true → found ≡ 2
  pub range : found ≤ 2
  pub none : found ≡ 0 → v.tally.ended ≡ 0
  pub alone : IsWhole v.part → Amounts found v.tally

-- a load
pub record Loaded (v : View Runs) (found : ℕ) (w : View Runs) : Type 0 where
  pub says : Says v found
  pub saw : w ≡ learns found (looked v found)

-- What the passes count adds up, and follows the run.

pub runs_add_up : IsTally no_runs both_runs known_runs
runs_add_up = grind (arith, nat_tests, eqb-true, eqb-false)

pub runs_open : AreRunsIn [] no_runs
runs_open = record { word = refl; begun = refl; completed = refl; over = omega arith; known = λ known. absurd cc }

-- acts on no word

pub runs_stay : StaysOnNoWord AreRunsIn
runs_stay = grind (arith, nat_tests, eqb-true, eqb-false)

-- steps on the word

pub runs_go_on : GoesOnByActs once_model both_runs AreRunsIn (λ _ _. runs_after) runs_needed
runs_go_on call place hold past e found step t rest needs is =
    let law = (once_lawful step.parties (e ∷ past) step.run).law in
    goes place call (word_in once_table past) t rest _ _ _ e.act (step.act ∙ step.found_is) is needs law.one law.state.ended
  where
    -- The run begins one closure at most, and its word is 2 only after the end.
    goes : (place : OncePlace) (call : Call ℕ) (memory : Word → ℕ) (t rest : Runs) (begins completions ends : ℕ) (act : Act ℕ) → act ≡ carried_out (once_intent Word.State place) memory → AreRuns (memory Word.State) begins completions ends (both_runs t rest) →
        runs_needed act t → cond (is_begin act) 1 0 + begins ≤ 1 → (word_after Word.State act (memory Word.State) ≡ 2 → cond (is_end act) 1 0 + ends ≡ 1) →
        AreRuns (word_after Word.State act (memory Word.State)) (cond (is_begin act) 1 0 + begins) (cond (is_completion act) 1 0 + completions) (cond (is_end act) 1 0 + ends) (both_runs (runs_after act call t) rest)
    goes place call memory t rest begins completions ends act h1 h2 h3 h4 h5 = grind (arith, nat_tests, eqb-true, eqb-false)
