use Rattle.registry_model.proofs.Outcomes.{outcome_law}
use Rattle.registry_model.proofs.shared.outcome.Goals as goal

pub returns : goal.returns
returns c = outcome_law
