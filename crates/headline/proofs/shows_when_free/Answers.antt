use Rattle.headline.proofs.Theorem.{shows_when_free as law}
use Rattle.headline.proofs.shows_when_free.Goals as goal

pub returns : goal.returns
returns c = law
