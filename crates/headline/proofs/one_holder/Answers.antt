use Rattle.headline.proofs.Agreeing.{one_holder as law}
use Rattle.headline.proofs.one_holder.Goals as goal

pub returns : goal.returns
returns c = law
