-- What the proofs of this crate read: lemmas of others, and definitions.
pub use Rattle.running_model.proofs.Over.{is_over}
pub use Rattle.std.proofs.Common.{sym, subst, rules}
pub use Rattle.running_once.specs.Names.{MatchBool, Word, Intent, MayStep, Coming, View, total, sum_of, none_played, both_played, core_played, played_add_up, IsSamePass, view, IsShare, Told, sights_of, parties_of, counted, Call, Answer, OncePlace, once_intent, Slot, Parties, all_of, Going, Beginning, Aside, ComesBy, Led, HasCalled, Went, [], ◌∷◌, ◌∙◌, ◌≡◌, true, None, refl, ℕ, ◌+◌, ◌==◌, Bool, false, List, ap, arith, ◌||◌, ◌≢◌, eqb-false, carried_out, Runs, eqb-true, nat_tests}
pub use Rattle.running_once.specs.OnceLaws.{DoneComesAfterTheEnd, TrueComesAfterTheEnd}
pub use Rattle.model_events.specs.Rows.{value_told}
pub use Rattle.std.specs.Prelude.{Some}
pub use Rattle.running_passes.specs.Sights.{HasLooked}
pub use Rattle.running_passes.proofs.Sums.{others, sum_at}
pub use Rattle.running_model.specs.Counts.{HasDone}
pub use Rattle.running_model.specs.Sees.{sights_after}
pub use Rattle.running_model.proofs.OfARun.{of_a_run}
pub use Rattle.running_model.proofs.Steps.{told_so, missed_so}
pub use Rattle.running_once.specs.Once.{once_model, no_runs, both_runs, known_runs, runs_after, AreRunsIn, OnceView, OneClosure, KnownHasEnded, WordTellsClosures, ClosuresAreOfARun, ended, Says, runs_add_up}
pub use Rattle.running_once.specs.OnceShown.{PlayedPass, HasBegun, HasOnlyWaited, IsTaken}
pub use Rattle.running_model.specs.Turns.{IsOver}
pub use Rattle.running_model.specs.Tries.{IsToEnd}
pub use Rattle.running_once.specs.OnceParties.{ComesToBegin, IsRunning, ComesToStay, HasLeft, WhereStays}
