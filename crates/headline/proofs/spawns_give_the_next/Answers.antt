use Rattle.headline.proofs.NextSerial.{spawns_give_the_next as law}
use Rattle.headline.proofs.spawns_give_the_next.Goals as goal

pub returns : goal.returns
returns c = law
