use Rattle.creations.proofs.NobodyBack.{nobody_came_back as law}
use Rattle.creations.proofs.nobody_came_back.Goals as goal

pub returns : goal.returns
returns c = law
