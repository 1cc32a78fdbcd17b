use Rattle.std.proofs.Common.{◌≡◌, map, take}
use Rattle.node_core.specs.CoreState.{opening_core}
use Rattle.cluster_world.proofs.start.cores_of.Given as goal

abbrev pub invariant-loop-node : goal.invariant-loop-node
invariant-loop-node g l = l.cores.items ≡ map (opening_core l.opening.nodes l.opening.cluster) (take l.node-index l.opening.nodes)
