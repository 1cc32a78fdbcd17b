use Rattle.leftovers.proofs.LocksTold.{held_locks_stand as law}
use Rattle.leftovers.proofs.held_locks_stand.Goals as goal

pub returns : goal.returns
returns c = law
