use Rattle.fences.proofs.Rising.{merged_ends_are_runs as law}
use Rattle.fences.proofs.merged_ends_are_runs.Goals as goal

pub returns : goal.returns
returns c = law
