use Rattle.headline.proofs.Spawning.{spawns_anew as law}
use Rattle.headline.proofs.spawns_give_new.Goals as goal

pub returns : goal.returns
returns c = law
