use Rattle.creations.proofs.Lifting.{exclusion as law}
use Rattle.creations.proofs.exclusion.Goals as goal

pub returns : goal.returns
returns c = law
