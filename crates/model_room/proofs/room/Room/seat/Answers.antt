use Rattle.model_room.proofs.Names.{◌∙◌, ap}
use Rattle.model_room.proofs.Stands.{seat_beyond}
use Rattle.model_room.specs.Room.{Seating}
use Rattle.model_room.proofs.room.Room.seat.Goals as goal

pub returns-in-None : goal.returns-in-None
returns-in-None g c objects parties past at =
    let same = c.deref.ensures.value ∙ ap (λ (m : Seating g.row.T.Denot). m.seats) c.self.view_is in
    seat_beyond g.T.AtomicInteger.arithmetic objects parties past c.args.self.now _ c.args.party at same c.in-None.ensures.lookup.3
