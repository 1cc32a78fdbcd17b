use Rattle.protocol_model.proofs.Places.{tells_its_nodes}
use Rattle.protocol_model.proofs.shared.worlds.Goals as goal

pub returns : goal.returns
returns c = tells_its_nodes
