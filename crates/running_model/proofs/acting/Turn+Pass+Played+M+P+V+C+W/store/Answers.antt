use Rattle.running_model.proofs.Names.{refl}
use Rattle.running_model.proofs.Updates.{adds_nothing, updates_by_act}
use Rattle.running_model.proofs.acting.Turn+Pass+Played+M+P+V+C+W.store.Goals as goal

pub store-requires-clause-update : goal.store-requires-clause-update
store-requires-clause-update g c = updates_by_act _ _ _ _ (adds_nothing _ _ _ g.C.Tally.adds_up) _ _ (g.M.Script.lawful _) g.M.Script.apart (g.C.Counts.stays _) (g.met.C.CountsByActs.free _) g.C.CountsByActs.sees (g.C.CountsByActs.after _) g.C.CountsByActs.needs (g.C.CountsByActs.same _) (g.met.C.CountsByActs.goes_on _) _ _ _ _ _ (λ _. c.args.put) c.requires.may c.requires.needs (λ w n. refl) (λ w n. refl)
