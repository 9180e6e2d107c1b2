use Rattle.text_trace.proofs.Names.{◌≡◌, ◌+◌, ◌<◌, ◌≤◌, ◌∙◌, sym, ap, [], ◌∷◌, length, Option, ℕ, arith, rules, length-append}
use Rattle.text_trace.specs.Rows.{entries, trimmed_to}
use Rattle.text_trace.proofs.RowLaws.{trims_short, trims}
use Rattle.text_trace.proofs.rows.trim.Goals as goal

pub returns-then-len-most : goal.returns-then-len-most
returns-then-len-most g c =
    let fits : length c.args.rows.now.items ≤ c.in-Some.most = search rules in
    trims_short c.in-Some.most c.args.rows.now.items fits ∙ ap (λ (most : Option ℕ). trimmed_to most (entries c.args.rows.now.items)) (sym c.in-Some.is)

pub returns : goal.returns
returns g c =
    let more : c.in-Some.most < length c.args.rows.now.items = search rules in
    let grew : length c.args.rows.now.items ≡ length c.pop.new.self.items + 1 = ap length c.in-Some-pop.ensures.items ∙ length-append c.pop.new.self.items (c.in-Some-pop.last ∷ []) in
    trims c.in-Some.most c.args.rows.now.items c.pop.new.self.items c.truncate.new.self.items c.push.new.self.items c.in-Some-pop.last (omega (arith, more, grew)) c.in-Some-pop.ensures.items c.truncate.ensures.items c.in_ok-push.ensures.items
    ∙ ap (λ (most : Option ℕ). trimmed_to most (entries c.args.rows.now.items)) (sym c.in-Some.is)
