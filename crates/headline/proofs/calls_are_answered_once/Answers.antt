use Rattle.headline.proofs.Theorem.{calls_are_answered_once as law}
use Rattle.headline.proofs.calls_are_answered_once.Goals as goal

pub returns : goal.returns
returns c = law
