-- Worlds of nodes, and worlds of names, whose nodes come back. What is said of worlds is said once, of what both have in common: at any
-- time they are a world of nodes, of which some run, and events of their own make the next.
-- es are the events so far, and w the world that they made.
use Rattle.std.specs.Prelude.{ℕ, Bool, true, false, not, ◌&&◌, ◌≡◌, None, List}
use Rattle.registry_model.specs.Process.{Nodes}
use Rattle.protocol_model.specs.Node.{Op, Current}
use Rattle.protocol_model.specs.Event.{Event as NodeEvent}
use Rattle.protocol_model.specs.World.{Opening, in_world, World as WorldOfNodes, left, WorldEvent, At, Deliver, opening_world, refusal, run}
use Rattle.protocol_model.specs.Course.{Played, course, seen}
use Rattle.protocol_model.specs.Fit.{is_delivery}
use Rattle.protocol_model.specs.ClientLocks.{ExclusionAfter}
use Rattle.protocol_model.specs.Headline.{Headline}
use Rattle.protocol_model.specs.Quiet.{Runs, NoLetterWaits}

-- The worlds that come of one opening
pub record Worlds : Type 1 where
  pub opening : Opening  -- of their nodes
  pub World : Type 0
  pub Event : Type 0
  pub opened : World
  pub nodes : World → WorldOfNodes  -- the world of nodes that it is
  pub Runs : World → ℕ → Type 0  -- this node runs
  pub running : World → Nodes  -- the nodes that run
  pub at : ℕ → NodeEvent → Event  -- an event at a node
  pub is_delivery : Event → Bool
  pub is_delivery_or_retry : Event → Bool
  pub Accepts : World → Event → Type 0
  pub run : World → List Event → World  -- what events make of a world
  pub played : World → List Event → List WorldEvent  -- and what they are in the world of nodes

-- the nodes of a world that haven't left
abbrev pub running : Opening → WorldOfNodes → Nodes
running o w c = in_world o c && not (left w c)

-- a letter is delivered, or a node is retried
abbrev pub is_delivery_or_retry : WorldEvent → Bool
is_delivery_or_retry (Deliver f t) = true
is_delivery_or_retry (At a NodeEvent.Retry) = true
is_delivery_or_retry _ = false

-- those of nodes
abbrev pub of_nodes : Opening → Worlds
of_nodes o = record {
  opening = o;
  World = WorldOfNodes;
  Event = WorldEvent;
  opened = opening_world o;
  nodes = λ w. w;
  Runs = λ w c. Runs o w c;
  running = λ w. running o w;
  at = λ a e. At a e;
  is_delivery = λ e. is_delivery e;
  is_delivery_or_retry = λ e. is_delivery_or_retry e;
  Accepts = λ w e. refusal o w e ≡ None;
  run = λ w es. run o w es;
  played = λ w es. es;
}

-- What is said of a world, and of the events that made it
abbrev pub Law : Type 1
Law = (W : Worlds) → List W.Event → W.World → Type 0

-- It holds of every world of nodes
abbrev pub OfNodes : Law → Type 0
OfNodes L = (o : Opening) (es : List WorldEvent) → L (of_nodes o) es (run o (opening_world o) es)

module _ (W : Worlds) (w : W.World) where
  -- no letter waits on a link to a running node
  abbrev pub IsQuiet : Type 0
  IsQuiet = NoLetterWaits (W.Runs w) W.opening (W.nodes w)

  -- and no operation of a running node waits for a retry
  pub record IsSettled : Type 0 where
    pub quiet : IsQuiet
    pub retried : (c : ℕ) (op : Op) → W.Runs w c → ((W.nodes w).node c).current ≡ Current.Waiting op → ⊥

module _ (W : Worlds) (es : List W.Event) where
  -- what these events are in the world of nodes, and those of them that it accepted, with what each brought
  abbrev pub events_of : List WorldEvent
  events_of = W.played W.opened es

  abbrev pub steps_of : List Played
  steps_of = course W.opening (opening_world W.opening) events_of

  module _ (w : W.World) where
    -- The headline
    abbrev pub Agrees : Type 0
    Agrees = Headline W.opening steps_of (seen W.opening (W.nodes w))

    -- Clients' locks exclude each other
    abbrev pub Excludes : Type 0
    Excludes = ExclusionAfter W.opening events_of (W.nodes w)
