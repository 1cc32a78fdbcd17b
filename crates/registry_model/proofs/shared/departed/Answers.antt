use Rattle.registry_model.proofs.Changes.{without_law}
use Rattle.registry_model.proofs.shared.departed.Goals as goal

pub returns : goal.returns
returns c = without_law
