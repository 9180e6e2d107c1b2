-- What contracts see of a lazy value and its pass, and what a call changes in a pass.
use Rattle.std.specs.Prelude.{◌≡◌, ℕ, ◌<◌}
use Rattle.model_events.specs.declared.event.Call.{Call}
use Rattle.model_events.specs.declared.event.Answer.{Answer}
use Rattle.boxcar.specs.declared.slot.Written.{Written}
use Rattle.running_passes.specs.declared.part.Part.{Part}
use Rattle.running_passes.specs.declared.view.View.{View}
use Rattle.running_once.specs.declared.Runs.{Runs}
use Rattle.running_once.specs.declared.OncePass.{OncePass}
use Rattle.running_once.specs.OnceShown as once
use Rattle.running_spin_lock.specs.Spin.{SpinView}
use Rattle.running_spin_lock.specs.declared.pass.SpinPass.{SpinPass}
use Rattle.running_spin_lock.specs.SpinShown as spin
use Rattle.running_lazy_lock.specs.declared.pass.LazyPass.{LazyPass}
use Rattle.running_lazy_lock.specs.declared.lazy_lock.LazyLock.{LazyLock}

-- the two passes inside: that of the once, and that of the closure's lock
abbrev pub once_in : LazyPass → OncePass
once_in p = p.once

abbrev pub init_in : LazyPass → SpinPass
init_in p = p.init

abbrev pub IsLazyPass : {T F G A : Type 0} → LazyLock T F G A → LazyPass → Type 0
IsLazyPass l p = once.IsOncePass l.once (once_in p) × spin.IsSpinPass l.init (init_in p)

-- what the pass knows of the once, and of the closure's lock
abbrev pub known_by : LazyPass → View Runs
known_by p = once.known_by (once_in p)

abbrev pub known_of_init : LazyPass → SpinView
known_of_init p = spin.view (init_in p)

-- what it weighs of each
abbrev pub part_of : LazyPass → Part
part_of p = once.part_of_once (once_in p)

abbrev pub part_of_init : LazyPass → Part
part_of_init p = spin.part_of (init_in p)

-- how many closures its owner ran to their end: 0 or 1
abbrev pub ended_of : LazyPass → ℕ
ended_of p = once.ended_of (once_in p)

-- it knows that the closure has ended
abbrev pub IsComplete : LazyPass → Type 0
IsComplete p = once.IsComplete (once_in p)

-- The pass knows that the closure has ended. It ran none, has looked, and left the closure's lock alone; or it ran the one, which it took
-- out of that lock by one grant.
pub record HasForced (p q : LazyPass) : Type 0 where
  pub completed : once.HasCompleted (once_in p) (once_in q)
  pub init : spin.HasStayed (init_in p) (init_in q)
  pub untouched : ended_of q ≡ ended_of p → init_in q ≡ init_in p
  pub took : ended_of p < ended_of q → spin.HasLockedOnce (init_in p) (init_in q)

-- The pass as a party of the once's model: it made one `CallOnce`, which was answered `Done`.
abbrev pub HasPlayed : LazyPass → LazyPass → Type 0
HasPlayed p q = once.HasPlayed Call.CallOnce Answer.Done (once_in p) (once_in q)

-- the word was seen once, and nothing else changed but that the pass may know of the end
abbrev pub HasSeenOnce : LazyPass → LazyPass → Type 0
HasSeenOnce p q = once.HasSeenOnce (once_in p) (once_in q) × (init_in q ≡ init_in p)

-- the token shows that this value lies where all read it
abbrev pub IsWritten : {T F G A : Type 0} → LazyLock T F G A → T → Written T → Type 0
IsWritten l value written = (written.of ≡ l.value.id) × (written.value ≡ value)
