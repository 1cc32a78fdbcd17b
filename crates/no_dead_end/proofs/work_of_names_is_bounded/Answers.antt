use Rattle.no_dead_end.proofs.NamedDeliveries.{work_of_names_is_bounded as law}
use Rattle.no_dead_end.proofs.work_of_names_is_bounded.Goals as goal

pub returns : goal.returns
returns c = law
