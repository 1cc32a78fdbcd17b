use Rattle.std.proofs.Common.{ℕ, List, ap, ◌∙◌}
use Rattle.term.specs.NodeSets.{set_of}
use Rattle.term.proofs.Algebra.{goes_from_rest}
use Rattle.term.proofs.node_set.NodeSet.difference.Goals as goal

pub loop-node-preserved : goal.loop-node-preserved
loop-node-preserved c = λ d.
    ap (λ (xs : List ℕ). set_of xs d) c.remove.ensures.others
    ∙ goes_from_rest c.args.self.now c.args.other.now c.loop-node.rest c.loop-node.node-index c.node-item.result
    (rw c.as_slice-node-items.ensures.nodes at c.loop-node-test.true)
    (rw c.as_slice-node-items.ensures.nodes at c.node-item.is) c.loop-node.invariant d
