use Rattle.headline.proofs.Theorem.{holder_holds as law}
use Rattle.headline.proofs.holder_holds.Goals as goal

pub returns : goal.returns
returns c = law
