use Rattle.server.proofs.Gathering.{Gathers}
use Rattle.server.proofs.serving.put_all.Given as goal

abbrev pub invariant-loop-node : goal.invariant-loop-node
invariant-loop-node l = Gathers l.initial.set l.nodes l.node-index l.set
