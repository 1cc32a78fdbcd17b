use Rattle.closings.proofs.Merged.{consistent_ends_play as law}
use Rattle.closings.proofs.consistent_ends_play.Goals as goal

pub returns : goal.returns
returns c = law
