use Rattle.node_loop.proofs.Consistency.{threads_are_consistent as law}
use Rattle.node_loop.proofs.laws.threads_are_consistent.Goals as goal

pub returns : goal.returns
returns c = law
