use Rattle.closings.proofs.Onward.{consistent_ends_go_on as law}
use Rattle.closings.proofs.consistent_ends_go_on.Goals as goal

pub returns : goal.returns
returns c = law
