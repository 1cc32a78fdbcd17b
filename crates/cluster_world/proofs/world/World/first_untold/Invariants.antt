use Rattle.cluster_world.proofs.Untold.{AllToldBefore}
use Rattle.cluster_world.proofs.world.World.first_untold.Given as goal

abbrev pub invariant-loop-core : goal.invariant-loop-core
invariant-loop-core g l = AllToldBefore l.gone l.self.links.departed l.core-index l.core-items
