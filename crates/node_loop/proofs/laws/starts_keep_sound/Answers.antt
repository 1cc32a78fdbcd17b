use Rattle.node_loop.proofs.Starting.{starts_keep_sound as law}
use Rattle.node_loop.proofs.laws.starts_keep_sound.Goals as goal

pub returns : goal.returns
returns c = law
