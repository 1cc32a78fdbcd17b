use Rattle.registry_model.proofs.NamesStand.{stand_law}
use Rattle.registry_model.proofs.histories.names_stand.Goals as goal

pub returns : goal.returns
returns c = stand_law
