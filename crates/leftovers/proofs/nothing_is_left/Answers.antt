use Rattle.leftovers.proofs.Nothing.{nothing_is_left as law}
use Rattle.leftovers.proofs.nothing_is_left.Goals as goal

pub returns : goal.returns
returns c = law
