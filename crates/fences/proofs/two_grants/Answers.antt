use Rattle.fences.proofs.Sampling.{two_grants as law}
use Rattle.fences.proofs.two_grants.Goals as goal

pub returns : goal.returns
returns c = law
