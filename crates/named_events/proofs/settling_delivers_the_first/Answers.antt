use Rattle.named_events.proofs.Settling.{settling_delivers_the_first as law}
use Rattle.named_events.proofs.settling_delivers_the_first.Goals as goal

pub returns : goal.returns
returns c = law
