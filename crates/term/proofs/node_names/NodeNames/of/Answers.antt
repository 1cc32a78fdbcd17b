use Rattle.std.proofs.Common.{ℕ, List, length, ap, sym, ◌∙◌, subst, arith}
use Rattle.std.specs.List.Sorted.{IsStrictlyIncreasing}
use Rattle.term.specs.NodeSets.{names_in}
use Rattle.term.proofs.NamesOf.{names_of_none, name_there, name_new, names_of_all, names_of_first}
use Rattle.term.proofs.node_names.NodeNames.of.Goals.{then-not-contains, else-not-contains}
use Rattle.term.proofs.node_names.NodeNames.of.Goals as goal

pub loop-node-init : goal.loop-node-init
loop-node-init c = names_of_none _ _ c.new_in-names.ensures

pub loop-node-preserved : goal.loop-node-preserved
loop-node-preserved c = elim c.if-not-contains.branch [
  | then-not-contains w ↦
      rw (w.names-is, w.push.ensures.items, w.copy.ensures, c.name-name.ensures)
      (name_new _ _ _ c.node-item.result
      (subst IsStrictlyIncreasing (sym c.as_slice-node-items.ensures.nodes) c.as_slice-node-items.ensures.set.rising)
      c.loop-node-test.true c.node-item.is
      (rw (c.deref.ensures.0, c.name-name.ensures) at (sym c.contains.ensures.value ∙ w.if-not-contains.true))
      c.loop-node.invariant)
  | else-not-contains w ↦
      rw (w.names-is)
      (name_there _ _ _ c.node-item.result c.loop-node-test.true c.node-item.is
      (rw (c.deref.ensures.0, c.name-name.ensures) at (sym c.contains.ensures.value ∙ w.if-not-contains.false))
      c.loop-node.invariant)
]

pub invariant_of-result : goal.invariant_of-result
invariant_of-result c = record {
  nodes = record {
    rising = c.loop-node.invariant.rising;
    fits = omega (
      arith,
      c.loop-node.invariant.fits,
      c.loop-node.auto.node-index-end,
      ap length c.as_slice-node-items.ensures.nodes,
      c.as_slice-node-items.ensures.set.fits,
    );
  };
  first = c.loop-node.invariant.first;
}

pub returns-clause-names : goal.returns-clause-names
returns-clause-names c = λ x.
    names_of_all c.as_slice-node-items.result.now _ c.loop-node.node-index c.loop-node-test.false c.loop-node.invariant x
    ∙ ap (λ (ms : List ℕ). names_in ms x) c.as_slice-node-items.ensures.nodes

pub returns-clause-first_nodes : goal.returns-clause-first_nodes
returns-clause-first_nodes c = λ all_first.
    names_of_first c.args.nodes.now c.loop-node.names.items c.as_slice-node-items.ensures.set.rising
    c.loop-node.invariant.rising (returns-clause-names c) all_first
