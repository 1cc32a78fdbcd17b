-- What is held, seen as the protocol's world of named nodes.
use Rattle.std.specs.Prelude.{ℕ, Bool, not, ◌&&◌, Option, Some, None, List, [], ◌∷◌, map, if◌then◌else◌}
use Rattle.protocol_model.specs.Letter.{Letter as AnyLetter}
use Rattle.protocol_model.specs.Links.{Links}
use Rattle.protocol_model.specs.Node.{Node, opening_node, holds_global}
use Rattle.protocol_model.specs.World.{Opening, in_world, in_cluster, World}
use Rattle.getting_through.specs.NodeNames.{NamedOpening, opening_of as all_creations}
use Rattle.getting_through.specs.NamedWorld.{NamedWorld}
use Rattle.term.specs.NodeSets.{with_older}
use Rattle.node_core.specs.CoreState.{CoreState}
use Rattle.node_core.specs.Letters.{letter_of}
use Rattle.node_core.specs.Seen.{node_of}
use Rattle.cluster_world.specs.Mail.{Mailed, links_of}
use Rattle.cluster_world.specs.Cores.{core_of}
use Rattle.cluster_world.specs.WorldState.{WorldState, nodes_of}
use Rattle.cluster_world.specs.Openings.{named_opening, present_in}
use Rattle.world_history.specs.Histories.{entries_of}

-- how the world opened: the names of its nodes
abbrev pub names_of : WorldState → NamedOpening
names_of h = named_opening (nodes_of h) h.cluster

-- and the world of all their creations that this is
abbrev pub opening_of : WorldState → Opening
opening_of h = all_creations (names_of h)

-- the first of these
abbrev pub or_else : Option CoreState → Option CoreState → Option CoreState
or_else None other = other
or_else (Some c) other = Some c

-- the core of a node that has started
abbrev pub core_at : ℕ → WorldState → Option CoreState
core_at a h = or_else (core_of a h.cores) (core_of a h.past)

-- node a with this core; without one it hasn't started, and stands as any node opens
abbrev pub node_with : Opening → ℕ → Option CoreState → Node
node_with o a None = opening_node (in_cluster o) a
node_with o a (Some c) = node_of c

-- The links, as those of all creations: for a node that hasn't started waits one `Down` of each that has left
abbrev pub all_links : Opening → Mailed → Links AnyLetter
all_links o m = record {
  queue = λ f t. if with_older m.nodes t
      then map letter_of ((links_of m).queue f t)
      else (if in_world o t && with_older m.departed f then AnyLetter.Down ∷ [] else []);
  closed = with_older m.departed;
}

-- what is held, as a world of the protocol
abbrev pub seen : WorldState → World
seen h = record {
  node = λ a. node_with (opening_of h) a (core_at a h);
  links = all_links (opening_of h) h.links;
  history = entries_of h.history;
}

-- and as one of named nodes
abbrev pub named : WorldState → NamedWorld
named h = record { world = seen h; present = present_in (nodes_of h) }

-- where these nodes have left, the core is that of a running joined node that holds the global lock
abbrev pub is_holding : List ℕ → CoreState → Bool
is_holding departed c = c.joined && holds_global (node_of c) && not (with_older departed c.name)
