use Rattle.headline.proofs.Theorem.{yes_is_written as law}
use Rattle.headline.proofs.yes_is_written.Goals as goal

pub returns : goal.returns
returns c = law
