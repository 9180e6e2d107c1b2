-- The lemmas of others that this crate cites.
pub use Rattle.std.proofs.Common.{◌≡◌, ◌<◌, ℕ, ◌-◌, ◌^◌, Bool, true, false, cond, List, [], ◌∷◌, Option, Some, None, Result, Ok, refl, subst, arith, ◌≢◌, suc, ◌+◌, ◌*◌, ◌≤◌, ◌&&◌, ◌==◌, eqb, ltb, not, ◌++◌, length, get_or, take, drop, sym, ap, ◌∙◌, add-one, drop-cons, rules, tests}
pub use Rattle.std.proofs.lemmas.Bool.{eqb-false, eqb-true, le-ltb}
pub use Rattle.std.proofs.lemmas.Bool.Decides.{nat_tests}
pub use Rattle.text_lines.specs.Names.{is_ascii_digit, bytes_eq, Call, Object, Arithmetic}
pub use Rattle.text_lines.specs.Lexer.{lines_of, onto_line, cut_line, words_of, is_blank, onto_word, before_bytes, number_from, fitting, number_within, number_of}
pub use Rattle.text_lines.specs.declared.fault.LineFault.{LineFault}
pub use Rattle.text_lines.specs.Fault.{◌>>=◌}
pub use Rattle.text_lines.specs.Call.{named}
pub use Rattle.text_lines.specs.Objects.{calls_of}
