use Rattle.std.proofs.Common.{ℕ, ◌==◌, sym, ap, ◌∙◌, subst}
use Rattle.std.specs.List.Sorted.{IsStrictlyIncreasing}
use Rattle.std.specs.Option.{option_copied, option_to_list}
use Rattle.term.specs.NodeSets.{with_older}
use Rattle.term.proofs.Latest.{named_there, named_other}
use Rattle.term.proofs.node_set.NodeSet.last_named.Goals.{then-eq, else-eq}
use Rattle.term.proofs.node_set.NodeSet.last_named.Goals as goal

pub loop-node-preserved : goal.loop-node-preserved
loop-node-preserved c = elim c.if-eq.branch [
  | then-eq w ↦ λ d.
      ap (λ o. with_older (option_to_list (option_copied o)) d) w.last-is
      ∙ named_there c.as_slice-node-items.result.now c.args.name.now c.loop-node.node-index c.node-item.result
      (subst IsStrictlyIncreasing (sym c.as_slice-node-items.ensures.nodes) c.as_slice-node-items.ensures.set.rising)
      c.loop-node-test.true c.node-item.is
      (ap (λ (n : ℕ). n == c.args.name.now) (sym c.name.ensures) ∙ sym c.eq.ensures ∙ w.if-eq.true) d
  | else-eq w ↦ λ d.
      ap (λ o. with_older (option_to_list (option_copied o)) d) w.last-is
      ∙ named_other c.as_slice-node-items.result.now (option_to_list (option_copied c.loop-node.last)) c.args.name.now
      c.loop-node.node-index c.node-item.result c.loop-node-test.true c.node-item.is
      (ap (λ (n : ℕ). n == c.args.name.now) (sym c.name.ensures) ∙ sym c.eq.ensures ∙ w.if-eq.false) c.loop-node.invariant d
]
