use Rattle.sync_steps.proofs.Names.{refl, None, Party}
use Rattle.sync_steps.proofs.Stands.{stands_first}
use Rattle.sync_steps.proofs.steps.machine.Machine.new.Goals as goal

pub returns : goal.returns
returns g c =
    let idle : Party g.row.T.Denot = record { doing = None; hold = None } in
    stands_first g.T.AtomicInteger.arithmetic c.args.object c.args.parties idle _ c.opened-words.ensures.values refl refl c.opened-words.ensures.words refl refl
    (c.in_ok-vec.ensures.items_if_clones_equal (λ y is. is))
