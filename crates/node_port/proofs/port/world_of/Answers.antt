use Rattle.node_port.proofs.Beginnings.{first_at_place, present_behind}
use Rattle.node_port.proofs.port.world_of.Goals as goal

pub present_of-requires : goal.present_of-requires
present_of-requires c =
    first_at_place c.as_slice-name-items.result.now c.loop-name.name-index c.name-item.result
    (rw c.as_slice-name-items.ensures.nodes c.requires.first) c.loop-name-test.true c.name-item.is

pub loop-name-preserved : goal.loop-name-preserved
loop-name-preserved c =
    present_behind c.args.node.now c.args.left.now c.as_slice-name-items.result.now
    (rw c.as_slice-name-items.ensures.nodes c.as_slice-name-items.ensures.set)
    (rw c.as_slice-name-items.ensures.nodes c.requires.first) c.loop-name.world c.insert-inserted.new.self c.loop-name.name-index
    c.name-item.result c.present_of.result c.insert-inserted.result c.loop-name-test.true c.name-item.is c.present_of.ensures
    c.loop-name.invariant c.insert-inserted.ensures.inserted
