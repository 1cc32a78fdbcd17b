use Rattle.no_dead_end.proofs.NamedPayments.{events_by_names_pay as law}
use Rattle.no_dead_end.proofs.events_by_names_pay.Goals as goal

pub returns : goal.returns
returns c = law
