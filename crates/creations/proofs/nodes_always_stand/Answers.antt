use Rattle.creations.proofs.Always.{nodes_always_stand as law}
use Rattle.creations.proofs.nodes_always_stand.Goals as goal

pub returns : goal.returns
returns c = law
