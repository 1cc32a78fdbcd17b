use Rattle.headline.proofs.Entries.{no_to_the_taken as law}
use Rattle.headline.proofs.no_to_the_taken.Goals as goal

pub returns : goal.returns
returns c = law
