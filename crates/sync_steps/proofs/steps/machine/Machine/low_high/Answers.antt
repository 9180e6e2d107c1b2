use Rattle.sync_steps.proofs.Names.{◌∙◌, ap, Word, Configuration}
use Rattle.sync_steps.proofs.Stands.{absent_at}
use Rattle.sync_steps.proofs.steps.machine.Machine.low_high.Goals as goal

pub returns-clause-low_absent : goal.returns-clause-low_absent
returns-clause-low_absent g c o parties past at lacks =
    ap (λ (m : Configuration g.row.T.Denot). m.words.low) c.self.view_is ∙ absent_at g.T.AtomicInteger.arithmetic o parties past c.args.self.now Word.Low at lacks

pub returns-clause-high_absent : goal.returns-clause-high_absent
returns-clause-high_absent g c o parties past at lacks =
    ap (λ (m : Configuration g.row.T.Denot). m.words.high) c.self.view_is ∙ absent_at g.T.AtomicInteger.arithmetic o parties past c.args.self.now Word.High at lacks
