use Rattle.term.proofs.OneNode.{name_bytes-spells}
use Rattle.term.proofs.Texts.{bytes_of-spells}
use Rattle.term.proofs.laws.names_keep_their_bytes.Goals as goal

pub returns-clause-names : goal.returns-clause-names
returns-clause-names c = bytes_of-spells

pub returns-clause-node_names : goal.returns-clause-node_names
returns-clause-node_names c = name_bytes-spells
