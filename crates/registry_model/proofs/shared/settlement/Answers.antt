use Rattle.registry_model.proofs.Settlements.{settle_law}
use Rattle.registry_model.proofs.shared.settlement.Goals as goal

pub returns : goal.returns
returns c = settle_law
