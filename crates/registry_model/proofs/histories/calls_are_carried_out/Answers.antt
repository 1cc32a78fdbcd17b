use Rattle.registry_model.proofs.Outcomes.{carried_law}
use Rattle.registry_model.proofs.histories.calls_are_carried_out.Goals as goal

pub returns : goal.returns
returns c = carried_law
