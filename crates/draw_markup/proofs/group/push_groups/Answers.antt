use Rattle.draw_markup.proofs.Trees.{groups_more, groups_all}
use Rattle.draw_markup.proofs.group.push_groups.Goals as goal

pub loop-group-preserved : goal.loop-group-preserved
loop-group-preserved c =
    λ titles h. groups_more titles c.args.groups.now c.loop-group.group-index c.group-item.result _ c.loop-group-test.true c.group-item.is (c.in_ok-push_group.ensures _ (c.loop-group.invariant titles h))

pub returns : goal.returns
returns c = λ titles h. groups_all titles c.args.groups.now c.loop-group.group-index _ c.loop-group-test.false (c.loop-group.invariant titles h)
