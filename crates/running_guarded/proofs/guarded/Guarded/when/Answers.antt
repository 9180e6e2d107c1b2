use Rattle.running_guarded.proofs.Names.{refl, subst, ◌∙◌}
use Rattle.running_model.proofs.Questions.{says_of}
use Rattle.running_guarded.proofs.Acting.{looks_often, looks_again, looks_wake, looks_abort}
use Rattle.running_guarded.proofs.guarded.Guarded.when.Goals as goal

pub returns-clause-looked : goal.returns-clause-looked
returns-clause-looked g c = looks_often _ _ _ _ _ _ _ (c.args.pass.now, c.args.changed_pass.now, c.args.wake_one, c.args.wait, c.args.act) (c.when_by-given.new.pass, c.when_by-given.new.changed_pass, c.when_by-given.result.1, c.when_by-given.result.2, c.when_by-given.new.act) c.when_by-given.ensures.looked

pub returns-clause-looked_again : goal.returns-clause-looked_again
returns-clause-looked_again g c = looks_again _ _ _ _ _ _ c.when_by-given.result.0 (c.args.pass.now, c.args.changed_pass.now, c.args.wake_one, c.args.wait, c.args.act) (c.when_by-given.new.pass, c.when_by-given.new.changed_pass, c.when_by-given.result.1, c.when_by-given.result.2, c.when_by-given.new.act) c.when_by-given.ensures.looked

pub returns-clause-aborted : goal.returns-clause-aborted
returns-clause-aborted g c = looks_abort _ _ _ _ _ _ g.W.Fn c.args.wait (λ f a r after good called. (g.met.W.Fn.1.step_stays _ _ _ _ called ∙ good, record { met = subst (λ x. g.W.Fn.post x a r) good ((g.met.W.FnMut.1.post_iff _ _ _).1 (after, called)) })) c.when_by-given.result.0 (c.args.pass.now, c.args.changed_pass.now, c.args.wake_one, c.args.wait, c.args.act) (c.when_by-given.new.pass, c.when_by-given.new.changed_pass, c.when_by-given.result.1, c.when_by-given.result.2, c.when_by-given.new.act) c.when_by-given.ensures.looked refl

pub returns-clause-woke : goal.returns-clause-woke
returns-clause-woke g c = let w = (looks_wake _ _ _ _ _ _ _ (c.args.pass.now, c.args.changed_pass.now, c.args.wake_one, c.args.wait, c.args.act) (c.when_by-given.new.pass, c.when_by-given.new.changed_pass, c.when_by-given.result.1, c.when_by-given.result.2, c.when_by-given.new.act) c.when_by-given.ensures.looked).1 in record { word = w.word; of = w.of; says = says_of _ g.K.Fn _ _ _ _ (λ a e. (g.met.K.FnMut.1.post_iff _ _ _).1 (_, e)) w.called }
