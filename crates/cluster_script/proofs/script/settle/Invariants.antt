use Rattle.cluster_script.proofs.Settling.{Settles}
use Rattle.cluster_script.proofs.script.settle.Given as goal

-- some deliveries were made, and the others are those that the world that stands now makes
abbrev pub invariant-loop : goal.invariant-loop
invariant-loop g l = Settles l.counter l.fn.world l.world (g.W.Write.contents l.fn.writer) (g.W.Write.contents l.writer)
