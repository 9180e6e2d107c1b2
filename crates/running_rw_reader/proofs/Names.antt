-- What the proofs of this crate read of others, and of its own definitions.
pub use Rattle.running_rw_reader.specs.Names.{read_holds, write_holds, View, Holds, IfOk, IfErr, Beginning, Went, parties_of, rw_reader_model, Call, Answer, HoldKind, all_of, spun, Word, Intent, rw_reader_table, Coming, MayStep, IsWhole, IsSamePass, view, part_of, counts_of, counted, none_played, both_played, core_played, played_add_up, IsShare, Told, Free, Locks, same_nothing, tells_same_nothing, held_adds_up, no_holds, both_holds, read, written, held_after, AreHoldsIn, Patience, RwReaderPlace, rw_reader_intent, Slot, Parties, Continuing, ComesBy, IsHolding, HasCalled, HasEnded, IsRefused, IsGranted, MayTry, IsToWake, Bor, Shared, WaitAction, sights_of, HasAsked, HasMoved, WasRefused, WasRefusedAt, HasGivenUp}
pub use Rattle.running_rw_reader.specs.RwReaderParties.{has_hold, Unlocks}
pub use Rattle.running_rw_reader.specs.RwReaderShown.{HasPlayed, RwReaderPass, reads_of, writes_of, HasLeftReading, HasLeftWriting, IsTaken, EntersToWrite, HasEnteredToWrite, HasSeenTaken}
pub use Rattle.running_model.proofs.Attempts.{missed_once, refused_by, told_after, asked_after}
pub use Rattle.running_model.proofs.Over.{is_over, either_is_over}
pub use Rattle.running_rw_hold.specs.HeldKeeps.{comes_in, goes_out, takes_over, parts, only_writes}
pub use Rattle.std.proofs.Common.{ap, ◌≢◌, subst, refl, ◌≡◌, true, Some, None, ◌∙◌, sym, MatchBool, ℕ, ◌+◌, ◌-◌, ◌^◌, ◌<◌, [], ◌∷◌, get_or, arith, Bool, false, List}
pub use Rattle.std.proofs.lemmas.Bool.{MatchBool-at_true, ne_eqb, eqb-true, eqb-false}
pub use Rattle.std.proofs.lemmas.Bool.Decides.{nat_tests}
