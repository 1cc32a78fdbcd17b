use Rattle.leftovers.proofs.Carried.{known_dead_own_nothing as law}
use Rattle.leftovers.proofs.known_dead_own_nothing.Goals as goal

pub returns : goal.returns
returns c = law
