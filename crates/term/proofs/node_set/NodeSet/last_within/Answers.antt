use Rattle.std.proofs.Common.{ℕ, Bor, refl, ap, ◌∙◌}
use Rattle.term.proofs.Latest.{within_none, none_of_name, put_last}
use Rattle.term.proofs.node_set.NodeSet.last_within.Goals.{in-Some, in_default}
use Rattle.term.proofs.node_set.NodeSet.last_within.Goals as goal

pub loop-node-init : goal.loop-node-init
loop-node-init c = within_none _ _ _ c.empty-all.ensures

pub loop-node-preserved : goal.loop-node-preserved
loop-node-preserved c = elim c.match-last_of_both.branch [
  | in-Some w ↦
      rw w.all-is
      (put_last c.as_slice-node-items.result.now c.loop-node.all w.insert-is_new.new.self _ c.loop-node.node-index
      c.node-item.result w.copy.result w.in-Some.last _ w.insert-is_new.result
      (rw c.as_slice-node-items.ensures.nodes c.as_slice-node-items.ensures.set) c.loop-node-test.true c.node-item.is refl
      (w.copy.ensures ∙ ap (λ (p : Bor ℕ). p.now) w.min.ensures) (rw c.name.ensures at w.in-Some.ensures) c.loop-node.invariant
      w.insert-is_new.ensures.inserted)
  | in_default w ↦
      rw w.all-is
      (none_of_name c.as_slice-node-items.result.now c.loop-node.all _ c.loop-node.node-index c.node-item.result
      c.loop-node-test.true c.node-item.is (rw c.name.ensures at w.in_default.ensures) c.loop-node.invariant)
]
