use Rattle.running_atomic.proofs.Names.{Call, Answer, Choosing, Pass, parties_of, key_of, Some, sym, subst, ◌∙◌, ComesToPut, Knows, PlayedAtomic}
use Rattle.running_atomic.proofs.AtomicPlays.{something_chosen}
use Rattle.running_atomic.proofs.calls.Atomic.put_chosen.Goals as goal

pub put-requires-clause-may : goal.put-requires-clause-may
put-requires-clause-may g c κs within = let old = c.requires.knows.0 in let done = c.requires.knows.1 in let knows = c.requires.knows.2 in
    (Answer.OkOld old, done, subst (λ choice. ComesToPut g.T.AtomicInteger.arithmetic (key_of c.args.self.now.stage) (Choosing choice) Call.FetchUpdate c.take-new.result.0 (Answer.OkOld old) done (parties_of c.take-new.result.1.pass.now)) (sym (c.requires.named ∙ (λ i. Some (sym c.take-new.ensures.value i)))) (something_chosen g.T.AtomicInteger.arithmetic (key_of c.args.self.now.stage) old c.take-new.result.0 done (parties_of c.take-new.result.1.pass.now) c.content-words.ensures.is_value (subst (λ (p : Pass (PlayedAtomic g.row.T.Denot)). Knows g.T.AtomicInteger.arithmetic (key_of c.args.self.now.stage) Call.FetchUpdate old done (parties_of p)) (sym c.take-new.ensures.still) knows)))

pub returns-clause-played : goal.returns-clause-played
returns-clause-played g c = λ old done knows. c.put.ensures.put Call.FetchUpdate (Answer.OkOld old) done
    (subst (λ choice. ComesToPut g.T.AtomicInteger.arithmetic (key_of c.args.self.now.stage) (Choosing choice) Call.FetchUpdate c.take-new.result.0 (Answer.OkOld old) done (parties_of c.take-new.result.1.pass.now)) (sym (c.requires.named ∙ (λ i. Some (sym c.take-new.ensures.value i)))) (something_chosen g.T.AtomicInteger.arithmetic (key_of c.args.self.now.stage) old c.take-new.result.0 done (parties_of c.take-new.result.1.pass.now) c.content-words.ensures.is_value (subst (λ (p : Pass (PlayedAtomic g.row.T.Denot)). Knows g.T.AtomicInteger.arithmetic (key_of c.args.self.now.stage) Call.FetchUpdate old done (parties_of p)) (sym c.take-new.ensures.still) knows)))
