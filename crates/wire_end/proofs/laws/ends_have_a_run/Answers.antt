use Rattle.wire_end.proofs.Running.{ends_have_a_run as law}
use Rattle.wire_end.proofs.laws.ends_have_a_run.Goals as goal

pub returns : goal.returns
returns c = law
