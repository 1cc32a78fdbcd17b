use Rattle.creations.proofs.LeftOfNames.{nothing_is_left as law}
use Rattle.creations.proofs.nothing_is_left.Goals as goal

pub returns : goal.returns
returns c = law
