use Rattle.wire_end.proofs.Own.{keep_their_own}
use Rattle.wire_end.proofs.laws.ends_keep_their_own.Goals as goal

pub returns : goal.returns
returns c = keep_their_own
