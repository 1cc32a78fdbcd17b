use Rattle.no_dead_end.proofs.NamedDeliveries.{limits_are_work as law}
use Rattle.no_dead_end.proofs.limits_are_work.Goals as goal

pub returns : goal.returns
returns c = law
