use mathlib.Core.Path.{ap, sym, subst, ◌∙◌}
use mathlib.Core.List.{List}
use Prim.Native.Nat.{ℕ, ◌≤◌}
use Rattle.std.specs.Prelude.{take, length}
use Rattle.explore_client.specs.Report.{NoneIsMissing}
use Rattle.sync_page.proofs.page_explore.Goals as goal

pub returns-in-Ok : goal.returns-in-Ok
returns-in-Ok c = record { complete = λ all fits. subst (λ (b : List ℕ). NoneIsMissing c.args.text.now b) (sym (ap (λ (n : ℕ). take n c.put-told.new.room) c.put-told.ensures.count ∙ (c.put-told.ensures.all (subst (λ (n : ℕ). n ≤ length c.args.out.now) c.put-told.ensures.count fits) ∙ c.deref.ensures.value))) (c.in-Ok.ensures.complete (c.all_of-told.ensures all)); never = λ all. c.in-Ok.ensures.never (c.all_of-told.ensures all) }
