use Rattle.model_room.proofs.Names.{◌∙◌, ap}
use Rattle.model_room.proofs.Stands.{machine_there, machine_beyond}
use Rattle.model_room.specs.Room.{Seating}
use Rattle.model_room.proofs.room.Room.machine.Goals as goal

pub returns-in-Some : goal.returns-in-Some
returns-in-Some g c objects parties past at =
    let same = c.deref.ensures.value ∙ ap (λ (m : Seating g.row.T.Denot). m.machines) c.self.view_is in
    let found = c.in-Some.ensures.lookup in
    machine_there g.T.AtomicInteger.arithmetic objects parties past c.args.self.now _ c.args.object _ at same found.3.0 found.1

pub returns-in-None : goal.returns-in-None
returns-in-None g c objects parties past at =
    let same = c.deref.ensures.value ∙ ap (λ (m : Seating g.row.T.Denot). m.machines) c.self.view_is in
    machine_beyond g.T.AtomicInteger.arithmetic objects parties past c.args.self.now _ c.args.object at same c.in-None.ensures.lookup.3
