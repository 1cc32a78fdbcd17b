use Rattle.leftovers.proofs.LocksTold.{dead_holders_hold_nothing as law}
use Rattle.leftovers.proofs.dead_holders_hold_nothing.Goals as goal

pub returns : goal.returns
returns c = law
