use Rattle.term.proofs.Numbers.{nat_cmp-nodes}
use Rattle.term.proofs.laws.nodes_are_ordered_by_name.Goals as goal

pub returns : goal.returns
returns c = nat_cmp-nodes
