-- What the answers read of the proofs of this crate.
pub use Rattle.running_rw_writer.proofs.Names.{HasTried, AskedCounts, Bool, WaitAction, Pass, Answered, parties_of, spun, ◌∙◌, sym, subst, arith, MatchBool, PlayedRwWriter, ComesToWrite, ComesToGiveUp, Call, Answer, HoldKind, rw_writer_model, Some, MatchBool-at_true, MatchBool-at_false, is_over, WriteIsGranted, After, RwWriterPlace, ◌≡◌, OnceWriting, WriteGoes, None, inl, inr, refl, rules, given_up, ℕ, HasJustSeen, spins, all_of, Leaver, Going, sights_of, seen, ◌+◌, View, MarkedHolds, ap, Unlocks, unlocked, ◌-◌, unmarks_or_leaves, MayGiveUp, ◌==◌, true, either_is_over, has_hold, HasPlayed, IsToWakeBoth, SomeCallGoes}
pub use Rattle.running_rw_writer.proofs.RwWriterKeeps.{closes, writers_in, readers_out, writers_out, looks_alone, made_mark, made_unmark, grants_are_of_a_run, none_beside, made_read, exchanges, enters, exchanges_alone, looks}
pub use Rattle.running_rw_writer.proofs.RwWriterPlays.{stands, goes_on, stands_to_wait, continued, aborted, comes_to_enter, may_enter, write_begins, may_write_once, may_leave_reading, leaves_reading, may_leave_writing, leaves_writing, may_look, looked_last, comes_to_mark, may_mark, marked, mark_missed, spins_on, all_spun, unlocking, since_begun, last_reader, wakes_writer, other_is_over, comes_to_unmark, may_unmark, unmarked, unmark_missed, leaves, wrote_once, granted_has, both_are_over, reader_is_over, may_read, read_once, read_goes, may_look_to_read}
pub use Rattle.running_rw_writer.proofs.RwWriterTries.{unchanged, fewest, tried_again, missed_it, sees_it, set_it, took_it, unmarks_none, asked_on, asked_last}
