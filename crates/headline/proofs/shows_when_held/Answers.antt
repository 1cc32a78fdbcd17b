use Rattle.headline.proofs.Theorem.{shows_when_held as law}
use Rattle.headline.proofs.shows_when_held.Goals as goal

pub returns : goal.returns
returns c = law
