use Rattle.headline.proofs.Theorem.{decided_under_lock as law}
use Rattle.headline.proofs.decided_under_lock.Goals as goal

pub returns : goal.returns
returns c = law
