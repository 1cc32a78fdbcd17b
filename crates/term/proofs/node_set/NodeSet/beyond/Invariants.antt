use Rattle.std.specs.Prelude.{not}
use Rattle.term.specs.NodeSets.{with_older}
use Rattle.term.proofs.Algebra.{Looked}
use Rattle.term.proofs.node_set.NodeSet.beyond.Given as goal

abbrev pub invariant-loop-node : goal.invariant-loop-node
invariant-loop-node l = Looked l.self (λ c. not (with_older l.other c)) l.node-index l.rest
