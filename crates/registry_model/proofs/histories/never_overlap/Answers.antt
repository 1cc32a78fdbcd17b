use Rattle.registry_model.proofs.Holding.{overlap_law}
use Rattle.registry_model.proofs.histories.never_overlap.Goals as goal

pub returns : goal.returns
returns c = overlap_law
