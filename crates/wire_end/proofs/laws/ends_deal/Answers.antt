use Rattle.wire_end.proofs.Dealing.{deals}
use Rattle.wire_end.proofs.laws.ends_deal.Goals as goal

pub returns : goal.returns
returns c = deals
