use Rattle.protocol_model.proofs.Meanings.{grants_the_free}
use Rattle.protocol_model.proofs.shared.free_locks.Goals as goal

pub returns : goal.returns
returns c = grants_the_free
