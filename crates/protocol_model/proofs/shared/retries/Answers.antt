use Rattle.protocol_model.proofs.Waiting.{waits_behind_a_round}
use Rattle.protocol_model.proofs.shared.retries.Goals as goal

pub returns : goal.returns
returns c = waits_behind_a_round
