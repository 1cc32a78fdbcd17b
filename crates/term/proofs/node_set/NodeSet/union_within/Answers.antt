use Rattle.term.proofs.Algebra.{union_within_is}
use Rattle.term.proofs.node_set.NodeSet.union_within.Goals as goal

pub returns : goal.returns
returns c =
    union_within_is c.args.world.now c.args.self.now c.args.other.now c.difference.result c.difference-2.result
    c.difference-3.result c.difference.ensures c.difference-2.ensures c.difference-3.ensures
