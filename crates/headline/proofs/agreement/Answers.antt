use Rattle.headline.proofs.Theorem.{agreement as law}
use Rattle.headline.proofs.agreement.Goals as goal

pub returns : goal.returns
returns c = law
