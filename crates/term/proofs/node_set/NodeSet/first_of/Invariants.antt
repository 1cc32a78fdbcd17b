use Rattle.std.proofs.Common.{◌≡◌, take}
use Rattle.term.proofs.node_set.NodeSet.first_of.Given as goal

abbrev pub invariant-loop-name : goal.invariant-loop-name
invariant-loop-name l = l.nodes.items ≡ take l.name-index l.name-items
