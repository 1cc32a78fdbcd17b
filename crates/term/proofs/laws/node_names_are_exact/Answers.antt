use Rattle.term.proofs.OneNode.{exact_node_names}
use Rattle.term.proofs.laws.node_names_are_exact.Goals as goal

pub returns : goal.returns
returns c = exact_node_names
