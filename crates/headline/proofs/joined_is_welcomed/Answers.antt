use Rattle.headline.proofs.Theorem.{joined_is_welcomed as law}
use Rattle.headline.proofs.joined_is_welcomed.Goals as goal

pub returns : goal.returns
returns c = law
