use Rattle.no_dead_end.proofs.EventsPay.{events_pay as law}
use Rattle.no_dead_end.proofs.events_pay.Goals as goal

pub returns : goal.returns
returns c = law
