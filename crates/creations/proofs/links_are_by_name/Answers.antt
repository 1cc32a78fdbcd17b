use Rattle.creations.proofs.ByName.{links_are_always_by_name as law}
use Rattle.creations.proofs.links_are_by_name.Goals as goal

pub returns : goal.returns
returns c = law
