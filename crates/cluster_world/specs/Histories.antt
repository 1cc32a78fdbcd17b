-- The numbers of joins, which a world's history has from the joiners.
use Rattle.std.specs.Prelude.{ℕ, ◌==◌, Option, Some, None, List, if◌then◌else◌}
use Rattle.protocol_model.specs.World.{number_in}
use Rattle.node_core.specs.CoreState.{CoreState}
use Rattle.node_core.specs.Seen.{node_of}
use Rattle.cluster_world.specs.Cores.{core_of}

-- the number of the current join of a core, if there is a core
abbrev pub number_of : Option CoreState → ℕ
number_of None = 0
number_of (Some c) = number_in (node_of c).current

-- the number of j's join, where a made a step and had this one before it
abbrev pub number_at : List CoreState → ℕ → ℕ → ℕ → ℕ
number_at cs a own j = if j == a then own else number_of (core_of j cs)
