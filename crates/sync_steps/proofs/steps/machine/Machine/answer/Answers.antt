use Rattle.sync_steps.proofs.Stands.{turned_in_place, refused_in_place, kept_in_place}
use Rattle.sync_steps.proofs.steps.machine.Machine.answer.Goals as goal

pub returns-in-Ok-clause-ok : goal.returns-in-Ok-clause-ok
returns-in-Ok-clause-ok g c =
    turned_in_place g.T.AtomicInteger.arithmetic c.answer.new.party c.self.view_is c.requires c.index_mut.ensures.value c.answer.ensures c.in-Ok.is c.tell.ensures.event c.tell.ensures.written

pub returns-in-Err-clause-fault : goal.returns-in-Err-clause-fault
returns-in-Err-clause-fault g c = refused_in_place g.T.AtomicInteger.arithmetic c.answer.new.party c.self.view_is c.requires c.index_mut.ensures.value c.answer.ensures c.in-Err.is

pub returns-in-Err-clause-err : goal.returns-in-Err-clause-err
returns-in-Err-clause-err g c = kept_in_place c.args.party _ c.answer.new.party c.self.view_is c.index_mut.ensures.value c.answer.ensures c.in-Err.is
