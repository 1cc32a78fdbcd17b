use Rattle.protocol_model.proofs.Meanings.{opens_empty}
use Rattle.protocol_model.proofs.shared.opening.Goals as goal

pub returns : goal.returns
returns c = opens_empty
