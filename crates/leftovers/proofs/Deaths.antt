-- Who is dead at its node is dead in the registry.
use Rattle.std.proofs.Common.{sym, ap, ◌∙◌}
use Rattle.registry_model.specs.Registry.{Registry}
use Rattle.registry_model.proofs.HistoryParts.{registry-standing_of}
use Rattle.protocol_model.specs.World.{in_cluster}
use Rattle.headline.proofs.Together
use Rattle.headline.specs.Clauses.{world}
use Rattle.headline.specs.Worlds.{OfNodes}
use Rattle.leftovers.specs.Leftovers.{DeathsAreKnown}

pub deaths_are_known : OfNodes DeathsAreKnown
deaths_are_known o es p h = ap (λ (r : Registry). r.dead p)
    (sym (registry-standing_of (in_cluster o) (world o es).history))
    ∙ (Together.replicas o (world o es) (Together.run_whole o es).kept).dead p.node p.serial h
