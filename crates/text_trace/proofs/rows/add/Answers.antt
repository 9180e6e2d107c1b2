use Rattle.text_trace.proofs.Names.{◌≡◌, ◌<◌, ◌^◌, [], refl, arith, rules, texts_of}
use Rattle.text_trace.proofs.RowLaws.{added_first, added_to_last, added_alone}
use Rattle.text_trace.proofs.rows.add.Goals as goal

pub returns-in_default : goal.returns-in_default
returns-in_default g c =
    let none : c.args.rows.now.items ≡ [] = search rules in
    let empty : c.pop.new.self.items ≡ [] = search rules in
    let small : c.args.times < 2 ^ 64 = omega arith in
    added_first c.args.times (texts_of c.args.cells) c.args.rows.now.items c.pop.new.self.items c.push.new.self.items _ c.requires small none empty c.in_ok-push.ensures.items refl

pub returns-in_ok-push-2 : goal.returns-in_ok-push-2
returns-in_ok-push-2 g c =
    added_to_last c.args.times (texts_of c.args.cells) c.args.rows.now.items c.pop.new.self.items c.push-then-read_same.new.self.items c.in-Some.last _ c.requires c.in-Some.ensures.items c.if-read_same.ensures c.in_ok-push-2.ensures.items
    (rw c.saturating_add.ensures refl)

pub returns-in_ok-push-4 : goal.returns-in_ok-push-4
returns-in_ok-push-4 g c =
    added_alone c.args.times (texts_of c.args.cells) c.args.rows.now.items c.pop.new.self.items _ c.push-else-read_same-2.new.self.items c.in-Some.last _ c.requires c.in-Some.ensures.items c.if-read_same.ensures c.in_ok-push-3.ensures.items c.in_ok-push-4.ensures.items
    (rw (c.saturating_add-else-read_same.ensures, c.saturating_add-else-read_same-2.ensures) refl)
