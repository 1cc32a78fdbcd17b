use Rattle.headline.proofs.Entries.{yes_stands as law}
use Rattle.headline.proofs.yes_stands.Goals as goal

pub returns : goal.returns
returns c = law
