use Rattle.protocol_model.proofs.Meanings.{compares_ids}
use Rattle.protocol_model.proofs.shared.ids.Goals as goal

pub returns : goal.returns
returns c = compares_ids
