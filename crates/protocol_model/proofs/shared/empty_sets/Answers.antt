use Rattle.protocol_model.proofs.Sets.{tells_the_empty}
use Rattle.protocol_model.proofs.shared.empty_sets.Goals as goal

pub returns : goal.returns
returns c = tells_the_empty
