-- What the proofs of this crate read of others, and of its own definitions.
pub use Rattle.running_rw_writer.specs.Names.{WaitAction, Pass, Answered, parties_of, spun, Call, Answer, HoldKind, rw_writer_model, After, RwWriterPlace, Word, Intent, counts_of, write_look, spins, all_of, Leaver, Going, sights_of, seen, released, View, MarkedHolds, unmarks_or_leaves, dite, ℕ_discrete, Coming, Each, IsSamePass, view, part_of, counted, view_of, looked, missed, wrote, sum_of, none_played, both_played, core_played, played_add_up, PlaysAndCounts, IsShare, Told, HasSeen, read_holds, write_holds, Knows, same_nothing, tells_same_nothing, Holds, no_holds, both_holds, nothing_marked, both_marked, read, no_more_read, written, no_more_written, flagged, marked_sees, marked_after, AreMarkedIn, IsMarkedOrHeld, Patience, rw_writer_intent, rw_writer_grant, is_blocked, try_read_look, read_look, marks_or_spins, write_refused, last_look, woken_all, is_last_reader, Slot, Parties, IsNamed, IsStepOn, Beginning, Continuing, ComesBy, IsHolding, HasCalled, HasEnded, IsGranted, StandsToWait, rw_writer_handed, Sights}
pub use Rattle.running_rw_writer.specs.RwWriterParties.{ComesToWrite, ComesToGiveUp, WriteIsGranted, OnceWriting, WriteGoes, given_up, Unlocks, unlocked, has_hold, IsToWakeBoth, SomeCallGoes, TableHas, TableLed, CallGoes, GoesFromTo}
pub use Rattle.running_rw_writer.specs.RwWriterShown.{HasPlayedGivingUp, HasTried, HasJustSeen, HasGivenUpWriting, MayGiveUp, HasPlayed, AskedCount, AskedCounts, IsOpen, EntersToRead, HasLeftReading, HasLeftWriting, reads_of, writes_of, HasMissedIt}
pub use Rattle.running_rw_writer.specs.RwWriterSteps.{PlayedRwWriter, IsMarked, all_in, GrantsAreOfARun, NoHoldBesideTheWriter, NoMarkWithoutAFlag, word_of, SaysAlone, Missed, WriterIn, IsSeenByWriter}
pub use Rattle.model_events.specs.Rows.{carried_out, value_told}
pub use Rattle.running_model.proofs.Over.{is_over, either_is_over}
pub use Rattle.running_rw_hold.specs.RwReading.{MayLook, MayEnter}
pub use Rattle.std.proofs.Common.{◌<◌, ◌^◌, ◌∙◌, ◌⊎◌, sym, subst, arith, MatchBool, Some, ◌≡◌, None, inl, inr, refl, rules, ℕ, ◌+◌, ap, ◌-◌, ◌==◌, true, ◌≢◌, List, [], ◌∷◌, get_or, ◌%◌, Bool, false, Option}
pub use Rattle.std.proofs.lemmas.Bool.{true≢false, MatchBool-at_true, MatchBool-at_false, eqb-true, eqb-false}
pub use Rattle.std.proofs.lemmas.Bool.Decides.{nat_tests}
