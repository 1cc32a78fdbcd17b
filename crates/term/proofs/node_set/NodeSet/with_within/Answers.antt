use Rattle.term.proofs.Algebra.{with_within_is}
use Rattle.term.proofs.node_set.NodeSet.with_within.Goals as goal

pub returns : goal.returns
returns c =
    with_within_is c.args.world.now c.args.self.now c.difference-others.result c.remove.new.self c.difference.result
    c.args.node.now c.difference-others.ensures c.remove.ensures.others c.difference.ensures
