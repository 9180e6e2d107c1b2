use Rattle.sync_steps.proofs.Names.{◌∙◌, ap, Configuration}
use Rattle.sync_steps.proofs.Stands.{party_at, unheld_at}
use Rattle.sync_steps.proofs.steps.machine.Machine.hold.Goals as goal

pub returns-in-Some : goal.returns-in-Some
returns-in-Some g c o parties past at =
    let same = c.deref.ensures.value ∙ ap (λ (m : Configuration g.row.T.Denot). m.parties) c.self.view_is in
    let found = c.in-Some.ensures.lookup in
    (party_at g.T.AtomicInteger.arithmetic o parties past c.args.self.now _ c.args.party c.in-Some.found.now at same found.3.0 found.1).hold_is

pub returns-in-None : goal.returns-in-None
returns-in-None g c o parties past at =
    let same = c.deref.ensures.value ∙ ap (λ (m : Configuration g.row.T.Denot). m.parties) c.self.view_is in
    unheld_at g.T.AtomicInteger.arithmetic o parties past c.args.self.now _ c.args.party at same c.in-None.ensures.lookup.3
