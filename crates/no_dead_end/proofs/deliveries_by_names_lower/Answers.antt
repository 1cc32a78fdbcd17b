use Rattle.no_dead_end.proofs.NamedDeliveries.{deliveries_by_names_lower as law}
use Rattle.no_dead_end.proofs.deliveries_by_names_lower.Goals as goal

pub returns : goal.returns
returns c = law
