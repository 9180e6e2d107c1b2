use Rattle.running_guarded.proofs.Names.{refl}
use Rattle.running_model.proofs.Questions.{says_of}
use Rattle.running_guarded.proofs.guarded.Guarded.with.Goals as goal

pub returns-clause-acted : goal.returns-clause-acted
returns-clause-acted g c = record { found = c.take-value.result; left = _; says = record { shown = _; shows = refl; left = _; met = c.act-given.ensures; leaves = refl } }

pub returns-clause-woke : goal.returns-clause-woke
returns-clause-woke g c = let w = c.leave-left.ensures.woke in record { word = w.word; of = w.of; says = says_of _ g.K.Fn _ _ _ _ (λ a e. (g.met.K.FnMut.1.post_iff _ _ _).1 (_, e)) w.called }
