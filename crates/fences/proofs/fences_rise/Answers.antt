use Rattle.fences.proofs.Rising.{fences_rise as law}
use Rattle.fences.proofs.fences_rise.Goals as goal

pub returns : goal.returns
returns c = law
