use Rattle.sync_play.proofs.Names.{take_rest}
use Rattle.sync_play.proofs.RunLaws.{writing_goes_on}
use Rattle.sync_play.proofs.streams.write_all.Goals as goal

pub loop-rest-preserved : goal.loop-rest-preserved
loop-rest-preserved g c = writing_goes_on _ _ _ c.args.bytes.now c.loop-rest.rest.now _ c.in-Ok.count c.loop-rest.invariant c.in-Ok.ensures.bytes (take_rest c.loop-rest.rest.now c.in-Ok.count)
