use Rattle.headline.proofs.Fixed.{fixed_membership as law}
use Rattle.headline.proofs.fixed_membership.Goals as goal

pub returns : goal.returns
returns c = law
