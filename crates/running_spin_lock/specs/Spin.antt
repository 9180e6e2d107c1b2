-- The model that a spin lock plays, what a pass of it knows, and what the rule over all of them says.
use Rattle.std.specs.Prelude.{ℕ, List}
use Rattle.running_spin_lock.specs.Names.{Event, Model, IsPast, SpinPlace, spin_table, KeepsSpin, u64_arithmetic, keeps_spin, spin_is_lock, IsForOne, View, Played, Holds}
use Rattle.running_spin_lock.specs.declared.script.SpinScript.{SpinScript}
use Rattle.running_spin_lock.specs.ValueRule.{HasOneHolder, GrantsAreOfARunOf}

abbrev pub spin_model : Model ℕ SpinPlace
spin_model = record { arithmetic = u64_arithmetic; table = spin_table; law = KeepsSpin }

-- every run keeps the spin lock's law
pub spin_lawful : (parties : ℕ) (past : List (Event ℕ)) → IsPast u64_arithmetic spin_table parties past → KeepsSpin past
spin_lawful parties past run = keeps_spin u64_arithmetic parties past run

pub spin_is_for_one : IsForOne spin_model
spin_is_for_one = spin_is_lock u64_arithmetic

-- what a pass of a spin lock is in its model, and counts beside
abbrev pub PlayedSpin : Type 0
PlayedSpin = Played SpinScript SpinPlace ℕ Holds

-- what it knows
abbrev pub SpinView : Type 0
SpinView = View PlayedSpin

abbrev pub OneHolderAtMost : (T : Type 0) → Type 0
OneHolderAtMost T = HasOneHolder SpinScript SpinPlace spin_model T

abbrev pub GrantsAreOfARun : (T : Type 0) → Type 0
GrantsAreOfARun T = GrantsAreOfARunOf SpinScript SpinPlace spin_model T
