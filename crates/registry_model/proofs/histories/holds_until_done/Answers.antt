use Rattle.registry_model.proofs.Holding.{holds_law}
use Rattle.registry_model.proofs.histories.holds_until_done.Goals as goal

pub returns : goal.returns
returns c = holds_law
