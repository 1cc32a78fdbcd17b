use Rattle.registry_model.proofs.Holding.{old_law}
use Rattle.registry_model.proofs.histories.old_leaves_out.Goals as goal

pub returns : goal.returns
returns c = old_law
