-- The model that a mutex plays.
use Rattle.std.specs.Prelude.{ℕ, List}
use Rattle.model_events.specs.Integers.{u64_arithmetic}
use Rattle.model_events.specs.Runs.{IsPast}
use Rattle.model_events.specs.declared.event.Event.{Event}
use Rattle.model_mutex.specs.Law.{KeepsMutex}
use Rattle.model_mutex.specs.Table.{mutex_table}
use Rattle.model_mutex.specs.declared.MutexPlace.{MutexPlace}
use Rattle.model_mutex.proofs.Laws.{keeps_mutex, mutex_is_lock}
use Rattle.running_for_one.specs.ForOne.{IsForOne}
use Rattle.running_model.specs.Models.{Model}

abbrev pub mutex_model : Model ℕ MutexPlace
mutex_model = record { arithmetic = u64_arithmetic; table = mutex_table; law = KeepsMutex }

-- every run keeps the mutex's law
pub mutex_lawful : (parties : ℕ) (past : List (Event ℕ)) → IsPast u64_arithmetic mutex_table parties past → KeepsMutex past
mutex_lawful parties past run = keeps_mutex u64_arithmetic parties past run

pub mutex_is_for_one : IsForOne mutex_model
mutex_is_for_one = mutex_is_lock u64_arithmetic
