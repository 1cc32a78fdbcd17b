use Rattle.wire_end.proofs.Leading.{stay_among}
use Rattle.wire_end.proofs.laws.ends_stay_among.Goals as goal

pub returns : goal.returns
returns c = stay_among
