use Rattle.std.specs.Prelude.{◌||◌}
use Rattle.term.specs.NodeSets.{with_older}
use Rattle.term.proofs.Latest.{Within}
use Rattle.term.proofs.node_set.NodeSet.last_within.Given as goal

abbrev pub invariant-loop-node : goal.invariant-loop-node
invariant-loop-node l = Within l.node-items (λ c. with_older l.self c || with_older l.other c) l.node-index l.all
