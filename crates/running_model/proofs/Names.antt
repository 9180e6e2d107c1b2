-- What the proofs of this crate read of others, and of its own definitions.
pub use Rattle.running_model.specs.Names.{Word, HoldKind, Intent, Act, Table, carried_out, value_told, PendingCall, word_after, hold_after, Bor, Shared, WaitAction, Part, Pass, part_of, sights_of, HasAsked, Call, Event, IsPast, View, Sights, IsTally, IsCounted, nat_lt, Then, Input, StepFault, Arithmetic, call_of, hold_of, word_in, latest_outcome, event, CallValues, stage_of, step_at, begin_fault, go_fault, answer_fault, choose_fault, InputValues, IsNext, Answer, call_after, fault_at, Patience, After, answered, outcome_of, place_after, call_going_on, hold_taken, hold_or, is_release, next_stage, view_of, wrote, seen_instead, Updates, same_word, object_of}
pub use Rattle.running_model.specs.Counts.{HasSeen, HasMissed, HasOnlySeen, HasMoved, WasRefused, WasRefusedAt}
pub use Rattle.running_model.specs.Models.{Model}
pub use Rattle.running_model.specs.Passes.{counts_of, none_played, both_played, core_played, played_add_up, StaysOnNoWord, GoesOnByActs, HasNeeds, SteppedByAct, PlaysAndCounts, IsOfARun, played, Told, SameOnNoWord, Learned, parties_of}
pub use Rattle.running_model.specs.Plays.{Coming, MayStep, IsHolding, HasEnded, events_of, Answered, IsAt, Leads, ComesBy, Matches, IsQuietSince, fresh_call, Going, Beginning, Continuing, Choosing, Aside, IsPlayed, WasAnswered, MayBegin, act_at, hold_then, Led, IsStepAt, Went, HasStepped, WentBy}
pub use Rattle.running_model.specs.SlotLaws.{group_all, all_of_both, slot_of_all, slot_of_only, slot_of_other, slot_past_end}
pub use Rattle.running_model.specs.Slots.{Slot, Free, Mine, only, Parties, no_parties, both, all, slot_at, parties, all_of, both_parties}
pub use Rattle.running_model.specs.Tries.{spun, IsRefused, IsStanding, OnceStanding, OnceRefused}
pub use Rattle.running_model.specs.Words.{IsAside, IsOnNoWord, on_no_word, AreApart, effect, AllHold, IsNamed, IsStepOn, IsApart}
pub use Rattle.running_model.specs.declared.played.Played.{Played}
pub use Rattle.model_events.proofs.Holds.{eqb_other, hold_of_same, hold_of_other, eqb_same, call_of_same, some_same}
pub use Rattle.model_events.proofs.Steps.{carried_is_step, carried_goes_on, carried_stage}
pub use Rattle.running_passes.proofs.Attempts.{read_twice, read_and_written}
pub use Rattle.std.proofs.Common.{◌≡◌, ℕ, refl, Option, None, arith, ◌+◌, ◌≤◌, Bool, MatchBool, sym, subst, ◌<◌, List, [], set, get_or, zero, suc, ap, true, ◌∷◌, Some, cond, ◌≢◌, ◌==◌, ◌∙◌, false, ◌⊎◌, inl, inr, length}
pub use Rattle.std.proofs.lemmas.Bool.{eqb-true, eqb-false, ne_eqb, false≢true, true≢false}
pub use Rattle.std.proofs.lemmas.Bool.Decides.{nat_tests, eqb_tells}
