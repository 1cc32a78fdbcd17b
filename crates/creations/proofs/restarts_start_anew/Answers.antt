use Rattle.creations.proofs.Always.{restarts_start_anew as law}
use Rattle.creations.proofs.restarts_start_anew.Goals as goal

pub returns : goal.returns
returns c = law
