use Rattle.std.specs.Option.{option_copied, option_to_list}
use Rattle.term.proofs.Latest.{Named}
use Rattle.term.proofs.node_set.NodeSet.last_named.Given as goal

abbrev pub invariant-loop-node : goal.invariant-loop-node
invariant-loop-node l = Named l.node-items l.name l.node-index (option_to_list (option_copied l.last))
