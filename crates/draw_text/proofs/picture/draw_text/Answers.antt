use Rattle.draw_text.proofs.Names.{true, false, rules, ValueType}
use Rattle.draw_text.proofs.PictureLaws.{drawn_at}
use Rattle.draw_text.proofs.picture.draw_text.Goals as goal

pub returns-in-U64-by_value_type-clause-drawn : goal.returns-in-U64-by_value_type-clause-drawn
returns-in-U64-by_value_type-clause-drawn c = search (rules, drawn_at ValueType.U64 true)

pub returns-in-U128-by_value_type-clause-drawn : goal.returns-in-U128-by_value_type-clause-drawn
returns-in-U128-by_value_type-clause-drawn c = search (rules, drawn_at ValueType.U128 true)

pub returns-in-I64-by_value_type-clause-drawn : goal.returns-in-I64-by_value_type-clause-drawn
returns-in-I64-by_value_type-clause-drawn c = search (rules, drawn_at ValueType.I64 true)

pub returns-in-I128-by_value_type-clause-drawn : goal.returns-in-I128-by_value_type-clause-drawn
returns-in-I128-by_value_type-clause-drawn c = search (rules, drawn_at ValueType.I128 true)

pub returns-in-U64-by_value_type-by_value_type-clause-drawn : goal.returns-in-U64-by_value_type-by_value_type-clause-drawn
returns-in-U64-by_value_type-by_value_type-clause-drawn c = search (rules, drawn_at ValueType.U64 false)

pub returns-in-U128-by_value_type-by_value_type-clause-drawn : goal.returns-in-U128-by_value_type-by_value_type-clause-drawn
returns-in-U128-by_value_type-by_value_type-clause-drawn c = search (rules, drawn_at ValueType.U128 false)

pub returns-in-I64-by_value_type-by_value_type-clause-drawn : goal.returns-in-I64-by_value_type-by_value_type-clause-drawn
returns-in-I64-by_value_type-by_value_type-clause-drawn c = search (rules, drawn_at ValueType.I64 false)

pub returns-in-I128-by_value_type-by_value_type-clause-drawn : goal.returns-in-I128-by_value_type-by_value_type-clause-drawn
returns-in-I128-by_value_type-by_value_type-clause-drawn c = search (rules, drawn_at ValueType.I128 false)
