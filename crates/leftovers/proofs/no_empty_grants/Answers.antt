use Rattle.leftovers.proofs.LocksTold.{no_empty_grants as law}
use Rattle.leftovers.proofs.no_empty_grants.Goals as goal

pub returns : goal.returns
returns c = law
