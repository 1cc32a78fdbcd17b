use Rattle.headline.proofs.Theorem.{history_is_legal as law}
use Rattle.headline.proofs.history_is_legal.Goals as goal

pub returns : goal.returns
returns c = law
