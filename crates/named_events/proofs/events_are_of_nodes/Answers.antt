use Rattle.named_events.proofs.OfNodes.{events_are_of_nodes as law}
use Rattle.named_events.proofs.events_are_of_nodes.Goals as goal

pub returns : goal.returns
returns c = law
