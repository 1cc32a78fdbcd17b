use Rattle.named_events.proofs.OfNodes.{events_follow_each_other as law}
use Rattle.named_events.proofs.events_follow_each_other.Goals as goal

pub returns : goal.returns
returns c = law
