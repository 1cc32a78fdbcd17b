use Rattle.leftovers.proofs.LocksTold.{free_locks_are_granted as law}
use Rattle.leftovers.proofs.free_locks_are_granted.Goals as goal

pub returns : goal.returns
returns c = law
