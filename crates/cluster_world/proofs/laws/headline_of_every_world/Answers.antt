use Rattle.getting_through.proofs.Theorem.{agreement}
use Rattle.world_events.specs.Openings.{opening_with}
use Rattle.cluster_world.proofs.laws.headline_of_every_world.Goals as goal

pub returns : goal.returns
returns c = λ nodes cluster es. agreement (opening_with nodes cluster) es
