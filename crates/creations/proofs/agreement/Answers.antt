use Rattle.creations.proofs.Lifting.{agreement as law}
use Rattle.creations.proofs.agreement.Goals as goal

pub returns : goal.returns
returns c = law
