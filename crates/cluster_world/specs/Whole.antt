-- What holds of a world at any time.
use Rattle.std.specs.Prelude.{true, false, ◌≡◌, List, map}
use Rattle.std.specs.List.{All}
use Rattle.term.specs.Nodes.{IsFirst}
use Rattle.term.specs.NodeSets.{IsNodeSet, set_of, with_older}
use Rattle.getting_through.specs.NamedWorld.{NamedEvent, after_events}
use Rattle.cluster_world.specs.WorldState.{WorldState, nodes_of}
use Rattle.cluster_world.specs.Links.{AreFit}
use Rattle.cluster_world.specs.Mail.{links_of}
use Rattle.cluster_world.specs.Seen.{named, names_of}

-- The cores are those of the nodes at present, and of older ones; those of running nodes know the nodes at present; and some events made
-- the world what it is
pub record IsWhole (h : WorldState) : Type 0 where
  pub set : IsNodeSet (nodes_of h)
  pub cluster : All IsFirst h.cluster
  pub names : map (λ c. c.name) h.cores ≡ nodes_of h
  pub worlds : All (λ c. with_older h.links.departed c.name ≡ false → c.world ≡ nodes_of h) h.cores
  pub older : All (λ c. (with_older (nodes_of h) c.name ≡ true) × (set_of (nodes_of h) c.name ≡ false)) h.past
  pub fit : AreFit (nodes_of h) (links_of h.links)
  pub events : List NamedEvent
  pub reached : named h ≡ after_events (names_of h) events
