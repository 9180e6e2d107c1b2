-- The lemmas of others that this crate cites.
pub use Rattle.std.proofs.Common.{◌≡◌, refl, ap, ◌∙◌, true, false, List, [], ◌∷◌, Some, None, Result, Ok, is_some, arith, ℕ, zero, suc, ◌+◌, Bool, cond, ◌++◌, length, Option, Err, ◌⊎◌, inl, inr, sym, subst, ◌≤◌, append_assoc, ◌<◌, IfSome, ◌-◌, ◌^◌, min, if◌then◌else◌, is_ok, OnOk, take, drop, ◌*◌, rules, tests, vec_len, Vec}
pub use Rattle.std.proofs.lemmas.Fmt.{decimal_digit}
pub use Rattle.std.proofs.lemmas.List.{append-nil, take_rest}
pub use Rattle.std.proofs.lemmas.List.Concat.{flat_map-append}
pub use Rattle.std.proofs.lemmas.Result.{err_from_is_err_and}
pub use Rattle.text_lines.proofs.CommandLaws.{HasValues, command_values}
pub use Rattle.text_lines.proofs.FaultLaws.{bind_ok, ok_is}
pub use Rattle.std.proofs.lemmas.Bool.Decides.{nat_tests}
pub use Rattle.std.proofs.lemmas.Bool.{eqb-false, eqb-true}
pub use Rattle.sync_play.specs.Names.{Event, Input, Object, Arithmetic, after, table_of, fault_of, move_of, IsNext, IsRun, StepFault, Move, goes_on, InputValues, FaultyLine, LineFault, Header, Command, Task, ◌>>=◌, at_line, line_fault_of, words_of, Numerals, ReadsValues, codes, decimal, Word, failures_in, word_in, replicate, Act, Configuration, StandsAt, is_quiet, IsQuiet, TextFault, IsFaultOf, lines_of, Answer, Call, Then, Wake, u64_numerals, call_of, hold_of, Appends, string_bytes, Consumes}
unfoldable pub use Rattle.sync_play.specs.Names.{command_of, header_of, task_of}
pub use Rattle.sync_play.specs.Player.{event_by, unless_refused, task_events, steps_left, left_after, command_events}
unfoldable pub use Rattle.sync_play.specs.Player.{event_of, events_of, run_of, steps_of}
pub use Rattle.sync_play.specs.Text.{events_asked}
unfoldable pub use Rattle.sync_play.specs.Text.{line_events, output_after, typed_output}
pub use Rattle.sync_play.specs.Print.{printed, party_words, party_line, named, further_words, act_line, event_lines, answer_words}
unfoldable pub use Rattle.sync_play.specs.Print.{last_line}
pub use Rattle.sync_play.specs.Law.{LinesAsk, GoOn, IsRefusedAt, RunRefused, TaskRefused, LineRefused, LaterLineRefused, IsRefusedLine, IsRunOfText, EndsInItsLine, EndsFirstAtLast, AreInputsOf, CommandAsks, LineAsks, IsRunOfLines}
pub use Rattle.sync_play.specs.Walk.{Walk, steps_then, nothing, opened, rest_walk, IsNextStride, ended, stopped, step_then, asked, walk_from, after_times, IsTurn, event_then, task_walk, or_nothing, line_walk, opened_by, most_steps}
unfoldable pub use Rattle.sync_play.specs.Walk.{go_walk, lines_walk, run_walk}
pub use Rattle.sync_play.specs.WalkOutput.{events_in, output_unless, output_in, output_opened, PrintsAll}
