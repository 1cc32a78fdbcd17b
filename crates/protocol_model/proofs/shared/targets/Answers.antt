use Rattle.protocol_model.proofs.Meanings.{asks_members}
use Rattle.protocol_model.proofs.shared.targets.Goals as goal

pub returns : goal.returns
returns c = asks_members
