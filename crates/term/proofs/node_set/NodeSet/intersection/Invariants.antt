use Rattle.term.specs.NodeSets.{set_of}
use Rattle.term.proofs.Algebra.{Looked}
use Rattle.term.proofs.node_set.NodeSet.intersection.Given as goal

abbrev pub invariant-loop-node : goal.invariant-loop-node
invariant-loop-node l = Looked l.self (set_of l.other) l.node-index l.common
