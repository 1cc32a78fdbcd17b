use Rattle.leftovers.proofs.WhenFree.{deaths_are_carried_out_when_free as law}
use Rattle.leftovers.proofs.deaths_are_carried_out_when_free.Goals as goal

pub returns : goal.returns
returns c = law
