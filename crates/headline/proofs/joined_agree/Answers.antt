use Rattle.headline.proofs.Agreeing.{joined_agree as law}
use Rattle.headline.proofs.joined_agree.Goals as goal

pub returns : goal.returns
returns c = law
