use Rattle.fences.proofs.Numbers.{fences_are_ordered as law}
use Rattle.fences.proofs.fences_are_ordered.Goals as goal

pub returns : goal.returns
returns c = law
