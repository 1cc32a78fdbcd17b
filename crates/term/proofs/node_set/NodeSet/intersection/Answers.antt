use Rattle.std.proofs.Common.{ℕ, List, ◌∙◌, ap, sym}
use Rattle.term.specs.NodeSets.{set_of}
use Rattle.term.proofs.Algebra.{stays, goes}
use Rattle.term.proofs.node_set.NodeSet.intersection.Goals.{then-not-contains, else-not-contains}
use Rattle.term.proofs.node_set.NodeSet.intersection.Goals as goal

pub loop-node-preserved : goal.loop-node-preserved
loop-node-preserved c = elim c.if-not-contains.branch [
  | then-not-contains w ↦
      λ d. ap (λ (ks : List ℕ). set_of ks d) (w.common-is ∙ w.remove.ensures.others)
      ∙ goes c.args.self.now (set_of c.args.other.now) c.loop-node.common c.loop-node.node-index c.node-item.result
      (rw c.as_slice-node-items.ensures.nodes at c.loop-node-test.true)
      (rw c.as_slice-node-items.ensures.nodes at c.node-item.is)
      (sym c.contains.ensures ∙ w.if-not-contains.true) c.loop-node.invariant d
  | else-not-contains w ↦
      λ d. ap (λ (ks : List ℕ). set_of ks d) w.common-is
      ∙ stays c.args.self.now (set_of c.args.other.now) c.loop-node.common c.loop-node.node-index c.node-item.result
      (rw c.as_slice-node-items.ensures.nodes at c.loop-node-test.true)
      (rw c.as_slice-node-items.ensures.nodes at c.node-item.is)
      (sym c.contains.ensures ∙ w.if-not-contains.false) c.loop-node.invariant d
]
