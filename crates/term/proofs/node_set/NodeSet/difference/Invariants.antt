use Rattle.term.proofs.Algebra.{Kept}
use Rattle.term.proofs.node_set.NodeSet.difference.Given as goal

abbrev pub invariant-loop-node : goal.invariant-loop-node
invariant-loop-node l = Kept l.self l.other l.node-index l.rest
