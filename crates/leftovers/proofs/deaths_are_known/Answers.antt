use Rattle.leftovers.proofs.Deaths.{deaths_are_known as law}
use Rattle.leftovers.proofs.deaths_are_known.Goals as goal

pub returns : goal.returns
returns c = law
