use Rattle.registry_model.proofs.NodeLists.{are_nodes_below}
use Rattle.registry_model.proofs.shared.nodes.Goals as goal

pub returns : goal.returns
returns c = are_nodes_below
