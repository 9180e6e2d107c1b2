-- Which steps a sleep and a wake make, in which order.
use Rattle.std.specs.Prelude.{◌≡◌, ◌≢◌, ◌≤◌, ◌<◌, ◌^◌, ◌%◌, ℕ}
use Rattle.std.specs.Fn.{Mut, Called}
use Rattle.model_events.specs.declared.event.Wake.{Wake}
use Rattle.running_closures.specs.declared.steps.SleepStep.{SleepStep}
use Rattle.running_closures.specs.declared.steps.SleepStep.TheVariants as sleeps
use Rattle.running_closures.specs.declared.steps.WakeStep.{WakeStep}
use Rattle.running_closures.specs.declared.steps.WakeStep.TheVariants as wakes

-- One step after the other led from f to after: it counted itself in, looked, and parked where the watched word was still seen, on the epoch that it
-- took. Else it counted itself out, at that epoch.
pub record HasSlept {F : Type 0} (g : Mut F (SleepStep × Unit {0}) ℕ) (seen : ℕ) (f after : F) : Type 0 where
  pub word : ℕ
  pub value : ℕ
  pub answer : ℕ
  pub counted : F
  pub looked : F
  pub comes : Called g f (sleeps.Comes, tt) word counted
  pub looks : Called g counted (sleeps.Looks, tt) value looked
  pub parks : value ≡ seen → Called g looked (sleeps.Parks (word % 2 ^ 32), tt) answer after
  pub turns : value ≢ seen → Called g looked (sleeps.Turns (word % 2 ^ 32), tt) answer after

module _ {F : Type 0} (g : Mut F (WakeStep × Unit {0}) ℕ) (wake : Wake) where
  -- it counted out whom it wakes, and then had the system wake them, unless nobody was counted
  pub record HasCounted (f after : F) : Type 0 where
    pub word : ℕ
    pub answer : ℕ
    pub counted : F
    pub counts : Called g f (wakes.CountsOut wake, tt) word counted
    pub asks : 2 ^ 32 ≤ word → Called g counted (wakes.Asks wake, tt) answer after
    pub nobody : word < 2 ^ 32 → after ≡ counted

  -- It read the word first, and did so only where somebody was counted.
  pub record HasWoken (f after : F) : Type 0 where
    pub word : ℕ
    pub read : F
    pub reads : Called g f (wakes.Reads, tt) word read
    pub wakes : 2 ^ 32 ≤ word → HasCounted read after
    pub nobody : word < 2 ^ 32 → after ≡ read
