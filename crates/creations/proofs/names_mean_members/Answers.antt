use Rattle.creations.proofs.NamedCalls.{names_mean_members as law}
use Rattle.creations.proofs.names_mean_members.Goals as goal

pub returns : goal.returns
returns c = law
