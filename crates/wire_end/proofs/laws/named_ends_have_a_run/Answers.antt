use Rattle.wire_end.proofs.Returning.{named_ends_have_a_run as law}
use Rattle.wire_end.proofs.laws.named_ends_have_a_run.Goals as goal

pub returns : goal.returns
returns c = law
