use Rattle.no_dead_end.proofs.Deliveries.{deliveries_lower as law}
use Rattle.no_dead_end.proofs.deliveries_lower.Goals as goal

pub returns : goal.returns
returns c = law
