-- What the passes of a semaphore count, the model that it plays, and that the counts follow the run.
use Rattle.model_events.specs.Integers.{u64_arithmetic}
use Rattle.model_events.specs.Runs.{IsPast}
use Rattle.model_events.specs.declared.event.Act.{Act}
use Rattle.model_events.specs.declared.event.Call.{Call}
use Rattle.model_events.specs.declared.event.Event.{Event}
use Rattle.model_events.specs.declared.event.Word.{Word}
use Rattle.running_model.specs.Models.{Model}
use Rattle.running_model.specs.Passes.{StaysOnNoWord, GoesOnByActs}
use Rattle.running_model.specs.Sums.{pairs_add_up}
use Rattle.running_passes.specs.Tallies.{IsTally}
use Rattle.std.proofs.Common.{◌≡◌, ℕ, ◌+◌, ◌-◌, ◌%◌, ◌^◌, true, List, [], arith, refl}
use Rattle.std.proofs.lemmas.Bool.{eqb-true, eqb-false}
use Rattle.std.proofs.lemmas.Bool.Decides.{nat_tests}
use Rattle.running_semaphore.specs.declared.permits.Permits.{Permits}
use Rattle.model_semaphore.specs.declared.SemaphorePlace.{SemaphorePlace}
use Rattle.model_semaphore.specs.Table.{semaphore_table}
use Rattle.model_semaphore.proofs.Laws.{keeps_semaphore}
use Rattle.model_semaphore.specs.Law.{semaphore_gives, permits_posted, KeepsSemaphore}
use Rattle.model_semaphore.specs.Permits.{permits_given, permits_taken}

-- What a pass counts, and what all passes count together.

abbrev pub permits : ℕ → ℕ → Permits
permits given taken = record { given = given; taken = taken }

abbrev pub no_permits : Permits
no_permits = permits 0 0

abbrev pub both_permits : Permits → Permits → Permits
both_permits t u = permits (t.given + u.given) (t.taken + u.taken)

-- the tally of the pass that `new` gives
abbrev pub first_permits : ℕ → Permits
first_permits initial = permits initial 0

-- the value that a tally comes to, where no other pass has counted anything
abbrev pub value_of : Permits → ℕ
value_of t = (t.given - t.taken) % 2 ^ 64

-- what an act of a call makes of a tally: an exchange that is done takes one, and the add of a `Post` gives its amount
abbrev pub permits_after : Act ℕ → Call ℕ → Permits → Permits
permits_after (Act.Exchange Word.State from to found true) call t = permits t.given (t.taken + 1)
permits_after (Act.Add Word.State old put) call t = permits (t.given + permits_posted call) t.taken
permits_after act call t = t

-- so much was given and taken in the run
pub record ArePermitsOf (initial : ℕ) (past : List (Event ℕ)) (t : Permits) : Type 0 where
  pub given : t.given ≡ permits_given semaphore_gives initial past
  pub taken : t.taken ≡ permits_taken Word.State past

-- The model that it plays.

abbrev pub semaphore_model : ℕ → Model ℕ SemaphorePlace
semaphore_model initial = record { arithmetic = u64_arithmetic; table = semaphore_table initial; law = KeepsSemaphore initial }

-- every run keeps the semaphore's law, whatever word it begins with
pub semaphore_lawful : (key parties : ℕ) (past : List (Event ℕ)) → IsPast u64_arithmetic (semaphore_table (key % 2 ^ 64)) parties past → KeepsSemaphore (key % 2 ^ 64) past
semaphore_lawful key parties past run = keeps_semaphore u64_arithmetic (key % 2 ^ 64) parties past (omega arith) run

-- What the passes count adds up, and follows the run.

pub permits_add_up : IsTally no_permits both_permits (λ _. no_permits)
permits_add_up = pairs_add_up permits (λ t. t.given) (λ t. t.taken) (λ n m. refl) (λ n m. refl) (λ t. refl)

pub permits_open : (initial : ℕ) → ArePermitsOf initial [] (first_permits initial)
permits_open initial = record { given = refl; taken = refl }

pub permits_stay : (initial : ℕ) → StaysOnNoWord (ArePermitsOf initial)
permits_stay initial = grind (arith, nat_tests, eqb-true, eqb-false)

pub permits_go_on : (initial : ℕ) → GoesOnByActs (semaphore_model initial) both_permits (ArePermitsOf initial) (λ _ _. permits_after) (λ _ _. Unit {0})
permits_go_on initial = grind (arith, nat_tests, eqb-true, eqb-false)
