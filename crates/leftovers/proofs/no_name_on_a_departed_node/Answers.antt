use Rattle.leftovers.proofs.Names.{no_name_on_a_departed_node as law}
use Rattle.leftovers.proofs.no_name_on_a_departed_node.Goals as goal

pub returns : goal.returns
returns c = law
