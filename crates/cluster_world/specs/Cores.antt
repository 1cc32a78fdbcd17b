-- The cores of the nodes.
use Rattle.std.specs.Prelude.{ℕ, ◌==◌, Option, List, find}
use Rattle.node_core.specs.CoreState.{CoreState}

-- the core of a node, if there is one
abbrev pub core_of : ℕ → List CoreState → Option CoreState
core_of a cs = find (λ c. c.name == a) cs
