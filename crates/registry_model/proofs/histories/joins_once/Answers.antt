use Rattle.registry_model.proofs.Deaths.{joins_law}
use Rattle.registry_model.proofs.histories.joins_once.Goals as goal

pub returns : goal.returns
returns c = joins_law
