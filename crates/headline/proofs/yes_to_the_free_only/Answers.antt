use Rattle.headline.proofs.Entries.{yes_to_the_free_only as law}
use Rattle.headline.proofs.yes_to_the_free_only.Goals as goal

pub returns : goal.returns
returns c = law
