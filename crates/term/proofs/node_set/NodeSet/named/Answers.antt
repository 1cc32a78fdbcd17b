use Rattle.std.proofs.Common.{ℕ, List, ◌∙◌, ap, sym}
use Rattle.term.specs.NodeSets.{set_of}
use Rattle.term.specs.Nodes.{name_of}
use Rattle.term.proofs.Algebra.{stays, goes}
use Rattle.term.proofs.node_set.NodeSet.named.Goals.{then-not-contains, else-not-contains}
use Rattle.term.proofs.node_set.NodeSet.named.Goals as goal

pub loop-node-preserved : goal.loop-node-preserved
loop-node-preserved c = elim c.if-not-contains.branch [
  | then-not-contains w ↦
      λ d. ap (λ (ks : List ℕ). set_of ks d) (w.named-is ∙ w.remove.ensures.others)
      ∙ goes c.args.self.now (λ d. set_of c.args.names.now (name_of d)) c.loop-node.named c.loop-node.node-index c.node-item.result
      (rw c.as_slice-node-items.ensures.nodes at c.loop-node-test.true)
      (rw c.as_slice-node-items.ensures.nodes at c.node-item.is)
      (ap (set_of c.args.names.now) (sym c.name.ensures) ∙ sym c.contains.ensures ∙ w.if-not-contains.true) c.loop-node.invariant d
  | else-not-contains w ↦
      λ d. ap (λ (ks : List ℕ). set_of ks d) w.named-is
      ∙ stays c.args.self.now (λ d. set_of c.args.names.now (name_of d)) c.loop-node.named c.loop-node.node-index c.node-item.result
      (rw c.as_slice-node-items.ensures.nodes at c.loop-node-test.true)
      (rw c.as_slice-node-items.ensures.nodes at c.node-item.is)
      (ap (set_of c.args.names.now) (sym c.name.ensures) ∙ sym c.contains.ensures ∙ w.if-not-contains.false) c.loop-node.invariant d
]
