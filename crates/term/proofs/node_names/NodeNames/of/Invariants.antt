use Rattle.term.proofs.NamesOf.{NamesOf}
use Rattle.term.proofs.node_names.NodeNames.of.Given as goal

abbrev pub invariant-loop-node : goal.invariant-loop-node
invariant-loop-node l = NamesOf l.node-items l.node-index l.names.items
