-- A world of named nodes: it is a world, with the present creation of each node name. Each of its events is some events of that world, so
-- that a run of it is a run of a world.
-- x and y are node names, n, f and t nodes, e is an event.
use Rattle.std.specs.Prelude.{ℕ, not, ◌≡◌, ◌+◌, nat_lt, Option, Some, None, is_none, option_map, find, filter, map, flat_map, fold, List, [], ◌∷◌, ◌++◌, if◌then◌else◌}
use Rattle.registry_model.specs.Process.{Nodes, at, nodes_of}
use Rattle.protocol_model.specs.Event.{Event, Answer, NoSuchNode}
use Rattle.protocol_model.specs.Links.{is_nil}
use Rattle.protocol_model.specs.World.{World, left, WorldEvent, other, opening_world, refusal, run, all_answers}
use Rattle.protocol_model.specs.Course.{is_down_first}
pub use Rattle.protocol_model.specs.NamedEvents.{NamedEvent, At, AtNode, Deliver, Restart, NamedRefusal, Plain, StillRunning, NotToldYet, CreationsSpent}
use Rattle.creations.specs.NodeNames.{NamedOpening, is_name, node_of, name_of, creation_of, first_nodes, opening_of}

pub record NamedWorld : Type 0 where
  pub world : World
  pub present : ℕ → ℕ  -- the present creation of each name

module _ (o : NamedOpening) where
  -- the present creation of each name is the first
  abbrev pub opening_named : NamedWorld
  opening_named = record { world = opening_world (opening_of o); present = λ x. 1 }

  module _ (w : NamedWorld) where
    -- the node that a name means
    abbrev pub present_node : ℕ → ℕ
    present_node x = node_of o x (w.present x)

    -- the node has started: it is the present one of its name, or older
    abbrev pub has_started : Nodes
    has_started n = not (nat_lt (w.present (name_of o n)) (creation_of o n))

    -- the nodes of the world that have started, rising
    abbrev pub started_nodes : List ℕ
    started_nodes = flat_map (λ x. first_nodes o x (w.present x)) (nodes_of o.bound o.names)

    -- those of them that run, rising
    abbrev pub running_nodes : List ℕ
    running_nodes = filter (λ n. not (left w.world n)) (map present_node (nodes_of o.bound o.names))

    -- the node that starts where x comes back
    abbrev pub next_node : ℕ → ℕ
    next_node x = node_of o x (w.present x + 1)

    -- the nodes that have started of which a `Down` waits for n, rising
    abbrev pub waiting_for : ℕ → List ℕ
    waiting_for n = filter (λ d. is_down_first (w.world.links.queue d n)) started_nodes

    -- the oldest node of f of which a letter waits for the present node of t; the present one where there is none
    abbrev pub or_present : ℕ → Option ℕ → ℕ
    or_present f None = present_node f
    or_present f (Some n) = n

    abbrev pub sender_to : ℕ → ℕ → ℕ
    sender_to f t = or_present f
        (find (λ n. not (is_nil (w.world.links.queue n (present_node t)))) (first_nodes o f (w.present f)))

    -- what an event is in the world: the departures that the new node is told of where a name comes back, and else one event
    abbrev pub plain : NamedEvent → List WorldEvent
    plain (At x e) = WorldEvent.At (present_node x) e ∷ []
    plain (AtNode n e) = WorldEvent.At n e ∷ []
    plain (Deliver f t) = WorldEvent.Deliver (sender_to f t) (present_node t) ∷ []
    plain (Restart x) = map (λ d. WorldEvent.Deliver d (next_node x)) (waiting_for (next_node x))

    -- the refusal of an event of the world; its other node, a contact or a sender, is none if it hasn't started. What a lock call
    -- names isn't looked at: a node that hasn't started is no member
    abbrev pub plain_refusal : WorldEvent → Option NamedRefusal
    plain_refusal e = if has_started (other e) then option_map Plain (refusal (opening_of o) w.world e) else Some (Plain NoSuchNode)

    -- of an event at n: a node that hasn't started is none
    abbrev pub refusal_at : ℕ → Event → Option NamedRefusal
    refusal_at n e = if has_started n then plain_refusal (WorldEvent.At n e) else Some (Plain NoSuchNode)

    -- the least running node that wasn't told that d has left
    abbrev pub first_untold : ℕ → Option ℕ
    first_untold d = find (λ n. not ((w.world.node n).replica.told d)) running_nodes

    -- of a restart whose departure this node wasn't told of yet
    abbrev pub untold_or_spent : ℕ → Option ℕ → Option NamedRefusal
    untold_or_spent x (Some n) = Some (NotToldYet n)
    untold_or_spent x None = if nat_lt (w.present x) o.last then None else Some CreationsSpent

    -- of a restart, in order: there is no such name, its node runs, a running node wasn't told that it has left, or there is no
    -- further creation
    abbrev pub restart_refusal : ℕ → Option NamedRefusal
    restart_refusal x =
        if not (is_name o x)
        then Some (Plain NoSuchNode)
        else (if left w.world (present_node x)
        then untold_or_spent x (first_untold (present_node x))
        else Some StillRunning)

    -- why an event is refused, if it is
    abbrev pub named_refusal : NamedEvent → Option NamedRefusal
    named_refusal (At x e) = refusal_at (present_node x) e
    named_refusal (AtNode n e) = refusal_at n e
    named_refusal (Deliver f t) = plain_refusal (WorldEvent.Deliver (sender_to f t) (present_node t))
    named_refusal (Restart x) = restart_refusal x

    -- the present creations behind an accepted event
    abbrev pub present_after : NamedEvent → ℕ → ℕ
    present_after (Restart x) = at w.present x (w.present x + 1)
    present_after _ = w.present

    -- what an accepted event makes of the world
    abbrev pub accepted_named : NamedEvent → NamedWorld
    accepted_named e = record { world = run (opening_of o) w.world (plain e); present = present_after e }

    -- an event happens; a refused one changes nothing
    abbrev pub happens_named : NamedEvent → NamedWorld
    happens_named e = if is_none (named_refusal e) then accepted_named e else w

    -- what an event is in the world, if it is accepted
    abbrev pub plain_accepted : NamedEvent → List WorldEvent
    plain_accepted e = if is_none (named_refusal e) then plain e else []

    -- what is answered in the step of an event
    abbrev pub named_answers : NamedEvent → List Answer
    named_answers e = all_answers (opening_of o) w.world (plain_accepted e)

  -- the world behind these events
  abbrev pub run_named : NamedWorld → List NamedEvent → NamedWorld
  run_named w es = fold happens_named w es

  -- what these events are in the world
  abbrev pub plain_events : NamedWorld → List NamedEvent → List WorldEvent
  plain_events w [] = []
  plain_events w (e ∷ es) = plain_accepted w e ++ plain_events (happens_named w e) es

  -- the world of names after these events, and what they are in the world that it is made of
  abbrev pub after_events : List NamedEvent → NamedWorld
  after_events es = run_named opening_named es

  abbrev pub as_events : List NamedEvent → List WorldEvent
  as_events es = plain_events opening_named es

-- A run of named nodes is a run of a world: of the nodes of all creations, by what its events are there
abbrev pub NamedRunsAreRuns : Type 0
NamedRunsAreRuns = (o : NamedOpening) (es : List NamedEvent) →
    (after_events o es).world ≡ run (opening_of o) (opening_world (opening_of o)) (as_events o es)
