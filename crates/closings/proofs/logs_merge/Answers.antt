use Rattle.closings.proofs.Gathering.{logs_merge as law}
use Rattle.closings.proofs.logs_merge.Goals as goal

pub returns : goal.returns
returns c = law
