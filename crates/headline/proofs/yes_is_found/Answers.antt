use Rattle.headline.proofs.Found.{yes_is_found as law}
use Rattle.headline.proofs.yes_is_found.Goals as goal

pub returns : goal.returns
returns c = law
