use Rattle.text_lines.proofs.Names.{sym, ◌∙◌, ◌^◌, arith}
use Rattle.text_lines.proofs.LexerLaws.{digit_too_large}
use Rattle.text_lines.proofs.lexer.wide_number.Goals as goal

pub returns-in_err-checked_mul : goal.returns-in_err-checked_mul
returns-in_err-checked_mul c =
    c.from_residual.ensures ∙ sym (digit_too_large (2 ^ 128) c.loop-byte.number c.loop-byte.byte-index c.args.word.now _ c.loop-byte-test.true (omega (arith, c.in_err-checked_mul.ensures)) c.loop-byte.invariant.0)

pub returns-in_err-number : goal.returns-in_err-number
returns-in_err-number c =
    c.from_residual-in_err-number.ensures ∙ sym (digit_too_large (2 ^ 128) c.loop-byte.number c.loop-byte.byte-index c.args.word.now _ c.loop-byte-test.true (omega (arith, c.in_err-number.ensures, c.in_ok-checked_mul.ensures, c.from.ensures)) c.loop-byte.invariant.0)
