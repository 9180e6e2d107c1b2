use Rattle.sync_steps.proofs.Names.{◌<◌, refl, sym, ap, subst, ◌∙◌, length, Some, slice_set, arith, slice_get-get_or, Then, event, Configuration, HasSpun}
use Rattle.sync_steps.proofs.steps.machine.Machine.spin.Goals as goal

pub returns : goal.returns
returns g c =
    let own = c.self.inside in
    let was : Configuration g.row.T.Denot = record { object = own.object; parties = own.parties.items; words = own.words; failed = own.failed } in
    let new : Configuration g.row.T.Denot = record { object = own.object; parties = slice_set own.parties.items c.args.party c.spin.new.party; words = own.words; failed = c.failed_after_all-self-inside.result } in
    let below : c.args.party < length was.parties = omega (arith, c.if-party-len.false, c.len.ensures) in
    let found = c.index_mut.result.now in
    let act = c.in_ok-act.act in
    let spins = c.in_ok-act.ensures in (
      subst (λ (m : Configuration g.row.T.Denot). HasSpun g.T.AtomicInteger.arithmetic c.args.party (event c.args.party act Then.GoesOn) c.in_ok-act.times m new) c.self.view_is
          (record {
            found = found;
            there = slice_get-get_or was.parties c.args.party found below ∙ ap Some (sym c.index_mut.ensures.value);
            after = c.spin.new.party;
            act = act;
            spins = spins.0;
            made_is = refl;
            object = refl;
            parties = refl;
            words = refl;
            failed = c.failed_after_all-self-inside.ensures;
          }),
      spins.1,
    )
