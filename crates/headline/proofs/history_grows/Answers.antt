use Rattle.headline.proofs.Theorem.{history_grows as law}
use Rattle.headline.proofs.history_grows.Goals as goal

pub returns : goal.returns
returns c = law
