use Rattle.creations.proofs.NamedRuns.{named_runs_are_runs as law}
use Rattle.creations.proofs.named_runs_are_runs.Goals as goal

pub returns : goal.returns
returns c = law
