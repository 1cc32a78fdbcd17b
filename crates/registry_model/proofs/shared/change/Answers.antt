use Rattle.registry_model.proofs.Changes.{change_law}
use Rattle.registry_model.proofs.shared.change.Goals as goal

pub returns : goal.returns
returns c = change_law
