use Rattle.fences.proofs.Turns.{grants_are_requested as law}
use Rattle.fences.proofs.grants_are_requested.Goals as goal

pub returns : goal.returns
returns c = law
