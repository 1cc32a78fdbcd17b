use Rattle.headline.proofs.Theorem.{joiners_are_answered as law}
use Rattle.headline.proofs.joiners_are_answered.Goals as goal

pub returns : goal.returns
returns c = law
