-- What this crate reads of others.
pub use Rattle.std.specs.Char.{is_ascii_digit}
pub use Rattle.std.specs.Fmt.{decimal, signed_decimal}
pub use Rattle.std.specs.Str.{bytes_eq}
pub use Rattle.model_events.specs.Exports.{IsValue, Arithmetic, fits_signed, span, high_bits, joined, arithmetic_of, unsigned, signed, width_of, u64_arithmetic, u128_arithmetic, i64_arithmetic, i128_arithmetic}
pub use Rattle.model_events.specs.declared.{event.Call.Call, event.Input.Input, event.Object.Object}
