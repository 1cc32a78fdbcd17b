use Rattle.wire_end.proofs.Among.{deals_among}
use Rattle.wire_end.proofs.laws.ends_deal_among.Goals as goal

pub returns : goal.returns
returns c = deals_among
