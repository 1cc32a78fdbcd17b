use Rattle.registry_model.proofs.LookUps.{look_law}
use Rattle.registry_model.proofs.shared.look_up.Goals as goal

pub returns : goal.returns
returns c = look_law
