use Rattle.term.specs.NodeSets.{set_of}
use Rattle.term.specs.Nodes.{name_of}
use Rattle.term.proofs.Algebra.{Looked}
use Rattle.term.proofs.node_set.NodeSet.named.Given as goal

abbrev pub invariant-loop-node : goal.invariant-loop-node
invariant-loop-node l = Looked l.self (λ c. set_of l.names (name_of c)) l.node-index l.named
