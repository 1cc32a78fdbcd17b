use Rattle.creations.proofs.RestartsLegal.{restarts_are_legal as law}
use Rattle.creations.proofs.restarts_are_legal.Goals as goal

pub returns : goal.returns
returns c = law
