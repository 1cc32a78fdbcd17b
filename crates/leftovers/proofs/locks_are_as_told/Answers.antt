use Rattle.leftovers.proofs.LocksTold.{locks_are_as_told as law}
use Rattle.leftovers.proofs.locks_are_as_told.Goals as goal

pub returns : goal.returns
returns c = law
