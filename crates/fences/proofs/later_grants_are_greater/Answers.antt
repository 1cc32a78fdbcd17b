use Rattle.fences.proofs.Turns.{later_grants_are_greater as law}
use Rattle.fences.proofs.later_grants_are_greater.Goals as goal

pub returns : goal.returns
returns c = law
