-- The lemmas of others that this crate cites.
pub use Rattle.std.proofs.Common.{◌≡◌, ℕ, refl, sym, ◌∙◌, ap, subst, Bool, true, false, cond, List, [], ◌∷◌, ◌++◌, Option, Some, None, ◌⊎◌, inl, inr, ◌≢◌, ◌<◌, ◌==◌, is_some, arith, ◌+◌, ◌-◌, ◌^◌}
pub use Rattle.std.proofs.lemmas.Bool.{eqb-true, false≢true, eqb-false}
pub use Rattle.std.proofs.lemmas.Bool.Decides.{eqb_tells, nat_tests}
pub use Rattle.model_events.proofs.Exports.{counted_of, some_same, call_of_same, call_of_other, eqb_same, fault_at_none, IsAtPlaceOrRests, each_rests, IsKeptFromRest, at_place_from_rest, by_move, carried_goes_on, carried_stage, tells_memory}
pub use Rattle.model_atomic.specs.Names.{MatchOption, Word, Event, HoldKind, Arithmetic, Hold, PendingCall, call_of, holds_of, hold_of, hold_among, word_in, Move, step_at, IsPast, acts_in, CountsHolds, unwrap_or, Call, Act, Answer, Then, WaitAction, carried_out, value_told, outcome_of, place_after, latest_outcome, event, is_step, choose_fault, last_of, StepsAs, seen_last, open_at, Releases, lets_readers_in, Input, After, IsValue, IsClosed, Table, call_after, word_after, writes_in, go_fault, stage_of, next_stage, fault_at, CallValues, InputValues, same_word, TellsMemory, IsExclusive, HasCause, is_refusal, Lacks, not, hold_after, answer_fault}
pub use Rattle.model_atomic.specs.declared.AtomicPlace.{AtomicPlace}
pub use Rattle.model_atomic.specs.Register.{is_data_access, act_of, choice_of, low_told, acts_made, HasChosen, is_last, acted, register_after, answer_in, answer_of, RegisterAct, plain, update, value_after, after_acts, choice_for, ends_at_look, act_by, acts_at, acts_of_run}
pub use Rattle.model_atomic.specs.Table.{atomic_table, atomic_begins, look_at, inside, knows, puts, atomic_grant, compares}
pub use Rattle.model_atomic.specs.Law.{AccessesUnderHold, IsAlone, accesses_to_write, WritesAlone, FewAccesses, RestsWithout, DataIsRegister, AnswersAsRegister, LatestAnswers, KeepsAtomic, AtomicCause}
