-- What a pass of a guarded value knows, and what the rule over all of them says.
use Rattle.running_guarded.specs.Names.{View, MutexPlace, mutex_model, HasOneHolder, GrantsAreOfARunOf, MutexScript, PlayedMutex}

-- what a pass knows
abbrev pub MutexView : Type 0
MutexView = View PlayedMutex

abbrev pub OneHolderAtMost : (T : Type 0) → Type 0
OneHolderAtMost T = HasOneHolder MutexScript MutexPlace mutex_model T

abbrev pub GrantsAreOfARun : (T : Type 0) → Type 0
GrantsAreOfARun T = GrantsAreOfARunOf MutexScript MutexPlace mutex_model T
