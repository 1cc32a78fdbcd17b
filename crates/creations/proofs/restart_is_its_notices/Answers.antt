use Rattle.creations.proofs.Recorded.{restart_is_its_notices as law}
use Rattle.creations.proofs.restart_is_its_notices.Goals as goal

pub returns : goal.returns
returns c = law
