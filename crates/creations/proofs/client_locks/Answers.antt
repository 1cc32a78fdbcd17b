use Rattle.creations.proofs.Lifting.{client_locks as law, client_locks_of_their_nodes as law_of_their_nodes}
use Rattle.creations.proofs.client_locks.Goals as goal

pub returns-clause-names : goal.returns-clause-names
returns-clause-names c = law

pub returns-clause-nodes : goal.returns-clause-nodes
returns-clause-nodes c = law_of_their_nodes
