use Rattle.creations.proofs.Lifting.{answers_stay_at_their_node as law}
use Rattle.creations.proofs.answers_stay_at_their_node.Goals as goal

pub returns : goal.returns
returns c = law
