use Rattle.std.proofs.Common.{◌≡◌, take}
use Rattle.term.specs.NodeSets.{succeeded}
use Rattle.term.proofs.node_set.NodeSet.with_next.Given as goal

abbrev pub invariant-loop-node : goal.invariant-loop-node
invariant-loop-node l = l.nodes ≡ succeeded l.older l.next (take l.node-index l.node-items)
