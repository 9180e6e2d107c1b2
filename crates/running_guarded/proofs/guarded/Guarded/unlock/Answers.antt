use Rattle.running_guarded.proofs.Names.{sym, ◌∙◌}
use Rattle.running_model.proofs.Questions.{says_of}
use Rattle.running_guarded.proofs.guarded.Guarded.unlock.Goals as goal

pub returns-clause-woke : goal.returns-clause-woke
returns-clause-woke g c = let w = c.leave-left.ensures.woke in record { word = w.word; of = w.of ∙ sym c.args.guard.own; says = says_of _ g.W.Fn _ _ _ _ (λ a e. (g.met.W.FnMut.1.post_iff _ _ _).1 (_, e)) w.called }
