use Rattle.wire_end.proofs.Ordering.{stay_in_order}
use Rattle.wire_end.proofs.laws.ends_stay_in_order.Goals as goal

pub returns : goal.returns
returns c = stay_in_order
