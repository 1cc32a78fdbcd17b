use Rattle.getting_through.proofs.Nothing.{nothing_is_left}
use Rattle.world_events.specs.Openings.{opening_with}
use Rattle.cluster_world.proofs.laws.nothing_is_left_in_any_world.Goals as goal

pub returns : goal.returns
returns c = λ nodes cluster es. nothing_is_left (opening_with nodes cluster) es
