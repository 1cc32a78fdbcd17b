use Rattle.term.proofs.ExactPids.{exact_pids}
use Rattle.term.proofs.laws.pids_are_exact.Goals as goal

pub returns : goal.returns
returns c = exact_pids
