use Rattle.no_dead_end.proofs.Deliveries.{settles_in_time as law}
use Rattle.no_dead_end.proofs.settles_in_time.Goals as goal

pub returns : goal.returns
returns c = law
