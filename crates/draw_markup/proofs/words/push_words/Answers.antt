use Rattle.draw_markup.proofs.Names.{◌++◌, ◌∙◌, ℕ, List, ap, sym, map-id, encodes-chars, flat_map, string_bytes, shown}
use Rattle.std.proofs.lemmas.Iterator.{YieldsList-from_chars}
use Rattle.std.proofs.lemmas.Iterator.Consumers.{YieldsList-end}
use Rattle.draw_markup.proofs.words.push_words.Goals as goal

pub returns-clause-shown : goal.returns-clause-shown
returns-clause-shown c =
    let end = YieldsList-end (YieldsList-from_chars c.args.text.now c.utf8.text cc) c.loop-char.yielded _ c.loop-char.yielded_by _ _ c.in-None.is c.next.ensures.steps in
    c.loop-char.invariant ∙ ap (λ (l : List ℕ). string_bytes c.args.bytes.now ++ flat_map shown l) (sym (map-id c.loop-char.yielded) ∙ end.0)

pub returns-clause-text : goal.returns-clause-text
returns-clause-text c = encodes-chars c.args.text.now c.utf8.text

pub returns-in_err-push_shown-clause-text : goal.returns-in_err-push_shown-clause-text
returns-in_err-push_shown-clause-text c = encodes-chars c.args.text.now c.utf8.text
