use Rattle.registry_model.proofs.Rising.{one_owner_law}
use Rattle.registry_model.proofs.histories.one_owner.Goals as goal

pub returns : goal.returns
returns c = one_owner_law
