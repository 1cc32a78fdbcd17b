use Rattle.closings.proofs.Playing.{consistent_ends_have_a_run as law}
use Rattle.closings.proofs.consistent_ends_have_a_run.Goals as goal

pub returns : goal.returns
returns c = law
