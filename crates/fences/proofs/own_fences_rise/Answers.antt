use Rattle.fences.proofs.Rising.{own_fences_rise as law}
use Rattle.fences.proofs.own_fences_rise.Goals as goal

pub returns : goal.returns
returns c = law
