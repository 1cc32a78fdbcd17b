use Rattle.leftovers.proofs.Carried.{deaths_are_carried_out as law}
use Rattle.leftovers.proofs.deaths_are_carried_out.Goals as goal

pub returns : goal.returns
returns c = law
