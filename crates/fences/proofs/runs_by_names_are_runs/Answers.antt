use Rattle.fences.proofs.ByName.{runs_by_names_are_runs as law}
use Rattle.fences.proofs.runs_by_names_are_runs.Goals as goal

pub returns : goal.returns
returns c = law
