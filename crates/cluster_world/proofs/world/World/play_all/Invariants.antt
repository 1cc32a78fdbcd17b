use Rattle.cluster_world.specs.Playing.{IsSoFar}
use Rattle.cluster_world.proofs.world.World.play_all.Given as goal

abbrev pub invariant-loop-played : goal.invariant-loop-played
invariant-loop-played g l = IsSoFar l.events l.fn.self l.self l.played l.answers.items
