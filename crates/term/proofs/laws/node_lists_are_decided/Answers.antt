use Rattle.term.proofs.ExactNodes.{decided_nodes, printed_nodes}
use Rattle.term.proofs.laws.node_lists_are_decided.Goals as goal

pub returns-clause-decided : goal.returns-clause-decided
returns-clause-decided c = decided_nodes

pub returns-clause-printed : goal.returns-clause-printed
returns-clause-printed c = printed_nodes
