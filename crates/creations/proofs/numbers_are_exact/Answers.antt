use Rattle.creations.proofs.Numbers.{numbers_are_exact as law}
use Rattle.creations.proofs.numbers_are_exact.Goals as goal

pub returns : goal.returns
returns c = law
