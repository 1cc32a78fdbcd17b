use Rattle.getting_through.proofs.ClientLocks.{client_locks}
use Rattle.world_events.specs.Openings.{opening_with}
use Rattle.cluster_world.proofs.laws.locks_of_every_world.Goals as goal

pub returns : goal.returns
returns c = λ nodes cluster es. client_locks (opening_with nodes cluster) es
