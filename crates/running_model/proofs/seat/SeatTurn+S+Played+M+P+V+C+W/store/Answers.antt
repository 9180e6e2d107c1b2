use Rattle.running_model.proofs.Names.{refl}
use Rattle.running_model.proofs.Carrying.{steps_carrying}
use Rattle.running_model.proofs.seat.SeatTurn+S+Played+M+P+V+C+W.store.Goals as goal

pub store-requires : goal.store-requires
store-requires g c = (c.requires.own, c.requires.inside, steps_carrying _ _ _ _ _ g.C.Tally.adds_up _ _ _ (g.M.Script.lawful _) g.M.Script.apart g.G.Carries.stays _ _ _ g.met.G.Carries.goes_on g.met.G.Carries.moves _ _ _ _ _ _ _ (λ _. c.args.put) c.requires.may c.requires.needs c.requires.alive c.requires.carries (λ w n. refl) (λ w n. refl))
