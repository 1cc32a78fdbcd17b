-- Which world is started.
use Rattle.std.specs.Prelude.{ℕ, ◌≡◌, List, ◌++◌}
use Rattle.term.specs.NodeSets.{set_of}
use Rattle.cluster_world.specs.WorldState.{WorldState, nodes_of}

-- the world has these nodes, and of them those of the cluster are joined
pub record Opens (cluster lone : List ℕ) (h : WorldState) : Type 0 where
  pub nodes : (c : ℕ) → set_of (nodes_of h) c ≡ set_of (cluster ++ lone) c
  pub joined : (c : ℕ) → set_of h.cluster c ≡ set_of cluster c
