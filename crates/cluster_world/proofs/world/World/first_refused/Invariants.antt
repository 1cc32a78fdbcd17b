use Rattle.cluster_world.specs.Finishing.{seems_refused}
use Rattle.cluster_world.proofs.Holding.{NonePasses}
use Rattle.cluster_world.proofs.world.World.first_refused.Given as goal

abbrev pub invariant-loop-core : goal.invariant-loop-core
invariant-loop-core g l = NonePasses (seems_refused l.departed) l.core-index l.core-items
