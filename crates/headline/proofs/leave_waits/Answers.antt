use Rattle.headline.proofs.Theorem.{leave_waits as law}
use Rattle.headline.proofs.leave_waits.Goals as goal

pub returns : goal.returns
returns c = law
