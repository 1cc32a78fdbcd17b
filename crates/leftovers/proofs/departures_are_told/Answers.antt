use Rattle.leftovers.proofs.Names.{departures_are_told as law}
use Rattle.leftovers.proofs.departures_are_told.Goals as goal

pub returns : goal.returns
returns c = law
