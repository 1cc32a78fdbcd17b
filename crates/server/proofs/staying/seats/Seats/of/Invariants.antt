use Rattle.server.specs.Staying.{GivesOut}
use Rattle.server.proofs.staying.seats.Seats.of.Given as goal

abbrev pub invariant-loop-node : goal.invariant-loop-node
invariant-loop-node l = GivesOut l.fn.cluster l.cluster
