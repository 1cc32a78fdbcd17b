use Rattle.headline.proofs.Agreeing.{one_owner_at_each as law}
use Rattle.headline.proofs.one_owner_at_each.Goals as goal

pub returns : goal.returns
returns c = law
