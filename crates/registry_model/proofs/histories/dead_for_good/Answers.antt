use Rattle.registry_model.proofs.Deaths.{dead_law}
use Rattle.registry_model.proofs.histories.dead_for_good.Goals as goal

pub returns : goal.returns
returns c = dead_law
