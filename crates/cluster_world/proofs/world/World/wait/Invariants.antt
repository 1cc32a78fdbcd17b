use Rattle.cluster_world.proofs.Seats.{IsWaiting}
use Rattle.cluster_world.proofs.world.World.wait.Given as goal

abbrev pub invariant-loop : goal.invariant-loop
invariant-loop g l = IsWaiting l.node l.number l.fn.self l.self l.counter
