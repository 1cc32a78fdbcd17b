-- Worlds of named nodes, with joins, departures and restarts, as worlds of which laws are said. A node runs there once it has started,
-- until it has left: so the `Down`s that wait for nodes that haven't started are no letters that wait.
use Rattle.std.specs.Prelude.{Bool, true, false, not, ◌&&◌, ◌≡◌, None, List}
use Rattle.registry_model.specs.Process.{Nodes}
use Rattle.protocol_model.specs.Event.{Event}
use Rattle.protocol_model.specs.World.{in_world, left}
use Rattle.lock_answers.specs.Worlds.{Worlds, of_nodes, Law}
use Rattle.creations.specs.NodeNames.{NamedOpening, opening_of}
use Rattle.creations.specs.NamedWorld.{NamedWorld, NamedEvent, AtNode, Deliver, has_started, named_refusal, opening_named, run_named, plain_events, after_events, as_events}
use Rattle.creations.specs.Restarts.{IsUp}

-- a letter is delivered, by names
abbrev pub is_named_delivery : NamedEvent → Bool
is_named_delivery (Deliver f t) = true
is_named_delivery _ = false

-- a letter is delivered by names, or a node is retried
abbrev pub is_named_delivery_or_retry : NamedEvent → Bool
is_named_delivery_or_retry (Deliver x y) = true
is_named_delivery_or_retry (AtNode n Event.Retry) = true
is_named_delivery_or_retry _ = false

-- the nodes that run
abbrev pub up : NamedOpening → NamedWorld → Nodes
up o w c = in_world (opening_of o) c && has_started o w c && not (left w.world c)

-- the worlds of these names. An event of theirs is in the world of nodes what `plain_events` says: a restart is there as the
-- deliveries of its notices
abbrev pub of_names : NamedOpening → Worlds
of_names o = record {
  opening = opening_of o;
  World = NamedWorld;
  Event = NamedEvent;
  opened = opening_named o;
  nodes = λ w. w.world;
  Runs = λ w c. IsUp o w c;
  running = λ w. up o w;
  at = λ n e. AtNode n e;
  is_delivery = λ e. is_named_delivery e;
  is_delivery_or_retry = λ e. is_named_delivery_or_retry e;
  Accepts = λ w e. named_refusal o w e ≡ None;
  run = λ w es. run_named o w es;
  played = λ w es. plain_events o w es;
}

-- A law holds of every world of names
abbrev pub OfNames : Law → Type 0
OfNames L = (o : NamedOpening) (es : List NamedEvent) → L (of_names o) es (after_events o es)

-- and of the world of nodes that it is
abbrev pub OfTheirNodes : Law → Type 0
OfTheirNodes L = (o : NamedOpening) (es : List NamedEvent) → L (of_nodes (opening_of o)) (as_events o es) (after_events o es).world
