use Rattle.protocol_model.proofs.Deliveries.{delivers_the_first}
use Rattle.protocol_model.proofs.shared.deliveries.Goals as goal

pub returns : goal.returns
returns c = delivers_the_first
