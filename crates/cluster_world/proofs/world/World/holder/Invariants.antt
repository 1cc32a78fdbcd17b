use Rattle.cluster_world.proofs.Holding.{NobodyBefore}
use Rattle.cluster_world.proofs.world.World.holder.Given as goal

abbrev pub invariant-loop-core : goal.invariant-loop-core
invariant-loop-core g l = NobodyBefore l.departed l.core-index l.core-items
