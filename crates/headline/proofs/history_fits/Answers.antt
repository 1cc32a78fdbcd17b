use Rattle.headline.proofs.Theorem.{history_fits as law}
use Rattle.headline.proofs.history_fits.Goals as goal

pub returns : goal.returns
returns c = law
