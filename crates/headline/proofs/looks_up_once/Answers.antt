use Rattle.headline.proofs.Theorem.{looks_up_once as law}
use Rattle.headline.proofs.looks_up_once.Goals as goal

pub returns : goal.returns
returns c = law
