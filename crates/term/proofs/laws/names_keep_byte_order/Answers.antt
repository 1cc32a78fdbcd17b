use Rattle.term.proofs.ExactTexts.{byte_order}
use Rattle.term.proofs.OneNode.{node_name_order}
use Rattle.term.proofs.laws.names_keep_byte_order.Goals as goal

pub returns-clause-names : goal.returns-clause-names
returns-clause-names c = byte_order

pub returns-clause-node_names : goal.returns-clause-node_names
returns-clause-node_names c = node_name_order
