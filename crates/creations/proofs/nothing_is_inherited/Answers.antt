use Rattle.creations.proofs.Inheriting.{nothing_is_inherited as law}
use Rattle.creations.proofs.nothing_is_inherited.Goals as goal

pub returns : goal.returns
returns c = law
