use Rattle.headline.proofs.Clients.{exclusion as law}
use Rattle.headline.proofs.exclusion.Goals as goal

pub returns : goal.returns
returns c = law
