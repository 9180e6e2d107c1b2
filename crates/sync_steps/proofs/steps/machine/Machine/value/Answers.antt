use Rattle.sync_steps.proofs.Names.{◌∙◌, ap, Word, Configuration}
use Rattle.sync_steps.proofs.Stands.{absent_at}
use Rattle.sync_steps.proofs.steps.machine.Machine.value.Goals as goal

pub returns-clause-absent : goal.returns-clause-absent
returns-clause-absent g c o parties past at lacks =
    ap (λ (m : Configuration g.row.T.Denot). m.words.value) c.self.view_is ∙ absent_at g.T.AtomicInteger.arithmetic o parties past c.args.self.now Word.Value at lacks
