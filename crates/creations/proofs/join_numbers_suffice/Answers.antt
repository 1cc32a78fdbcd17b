use Rattle.creations.proofs.NumbersRead.{join_numbers_suffice as law}
use Rattle.creations.proofs.join_numbers_suffice.Goals as goal

pub returns : goal.returns
returns c = law
