use Rattle.leftovers.proofs.Names.{dead_owners_own_nothing as law}
use Rattle.leftovers.proofs.dead_owners_own_nothing.Goals as goal

pub returns : goal.returns
returns c = law
