use Rattle.term.proofs.OneNode.{exact_nodes}
use Rattle.term.proofs.laws.nodes_are_exact.Goals as goal

pub returns : goal.returns
returns c = exact_nodes
