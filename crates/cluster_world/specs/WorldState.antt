-- What a world holds.
use Rattle.std.specs.Prelude.{ℕ, List}
use Rattle.node_core.specs.CoreState.{CoreState}
use Rattle.world_history.specs.declared.entry.HistoryEntry.{HistoryEntry}
use Rattle.cluster_world.specs.Mail.{Mailed}

pub record WorldState : Type 0 where
  pub cluster : List ℕ  -- the nodes that were joined at first, rising
  pub cores : List CoreState  -- one for each node at present, in the order of the nodes
  pub past : List CoreState  -- those of nodes that were replaced, as they were when they left
  pub links : Mailed
  pub history : List HistoryEntry

-- the nodes at present, one of each name, rising
abbrev pub nodes_of : WorldState → List ℕ
nodes_of h = h.links.nodes
