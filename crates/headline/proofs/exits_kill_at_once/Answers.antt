use Rattle.headline.proofs.Exiting.{exits_kill_at_once as law}
use Rattle.headline.proofs.exits_kill_at_once.Goals as goal

pub returns : goal.returns
returns c = law
