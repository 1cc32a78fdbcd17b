use Rattle.headline.proofs.Theorem.{entries_are_made_at_home as law}
use Rattle.headline.proofs.entries_are_made_at_home.Goals as goal

pub returns : goal.returns
returns c = law
