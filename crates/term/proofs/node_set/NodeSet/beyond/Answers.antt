use Rattle.std.proofs.Common.{ℕ, List, ◌∙◌, ap, sym}
use Rattle.std.specs.Prelude.{not}
use Rattle.term.specs.NodeSets.{set_of, with_older}
use Rattle.term.proofs.Algebra.{stays, goes}
use Rattle.term.proofs.node_set.NodeSet.beyond.Goals.{then-reaches, else-reaches}
use Rattle.term.proofs.node_set.NodeSet.beyond.Goals as goal

pub loop-node-preserved : goal.loop-node-preserved
loop-node-preserved c = elim c.if-reaches.branch [
  | then-reaches w ↦
      λ d. ap (λ (ks : List ℕ). set_of ks d) (w.rest-is ∙ w.remove.ensures.others)
      ∙ goes c.args.self.now (λ d. not (with_older c.args.other.now d)) c.loop-node.rest c.loop-node.node-index c.node-item.result
      (rw c.as_slice-node-items.ensures.nodes at c.loop-node-test.true)
      (rw c.as_slice-node-items.ensures.nodes at c.node-item.is)
      (ap not (sym c.reaches.ensures ∙ w.if-reaches.true)) c.loop-node.invariant d
  | else-reaches w ↦
      λ d. ap (λ (ks : List ℕ). set_of ks d) w.rest-is
      ∙ stays c.args.self.now (λ d. not (with_older c.args.other.now d)) c.loop-node.rest c.loop-node.node-index c.node-item.result
      (rw c.as_slice-node-items.ensures.nodes at c.loop-node-test.true)
      (rw c.as_slice-node-items.ensures.nodes at c.node-item.is)
      (ap not (sym c.reaches.ensures ∙ w.if-reaches.false)) c.loop-node.invariant d
]
