use Rattle.leftovers.proofs.LocksTold.{nobody_keeps_the_global_lock as law}
use Rattle.leftovers.proofs.nobody_keeps_the_global_lock.Goals as goal

pub returns : goal.returns
returns c = law
