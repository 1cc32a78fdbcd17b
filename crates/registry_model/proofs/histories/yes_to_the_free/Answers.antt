use Rattle.registry_model.proofs.NamesStand.{yes_law}
use Rattle.registry_model.proofs.histories.yes_to_the_free.Goals as goal

pub returns : goal.returns
returns c = yes_law
