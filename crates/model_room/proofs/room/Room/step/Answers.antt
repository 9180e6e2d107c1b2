use Rattle.model_room.proofs.Names.{sym, ◌∙◌, arith}
use Rattle.model_room.proofs.Stands.{steps_in_place, steps_headlines, refuses_in_place}
use Rattle.model_room.proofs.room.Room.step.Goals as goal

pub returns-in-Ok-clause-next : goal.returns-in-Ok-clause-next
returns-in-Ok-clause-next g c =
    steps_in_place g.T.AtomicInteger.arithmetic c.args.party c.args.object c.args.input c.in-Ok.event c.self.view_is (omega arith) c.index_mut.ensures.value (omega arith) c.index.ensures
    (sym c.begins_elsewhere.ensures ∙ c.if-begins_elsewhere.false) c.seat_left.ensures c.in-Ok.ensures.next

pub returns-in-Ok-clause-headline : goal.returns-in-Ok-clause-headline
returns-in-Ok-clause-headline g c = steps_headlines g.T.AtomicInteger.arithmetic c.args.party c.args.object c.args.input _ _ _ (returns-in-Ok-clause-next g c)

pub returns-in-Err-clause-fault : goal.returns-in-Err-clause-fault
returns-in-Err-clause-fault g c =
    refuses_in_place g.T.AtomicInteger.arithmetic c.args.party c.args.object c.args.input c.in-Err.fault c.self.view_is (omega arith) c.index_mut.ensures.value (omega arith) c.index.ensures
    (sym c.begins_elsewhere.ensures ∙ c.if-begins_elsewhere.false) c.in-Err.ensures.fault
