use Rattle.protocol_model.proofs.Idle.{refuses_the_idle}
use Rattle.protocol_model.proofs.shared.idle.Goals as goal

pub returns : goal.returns
returns c = refuses_the_idle
