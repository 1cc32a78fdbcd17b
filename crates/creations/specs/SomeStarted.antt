-- Worlds of nodes of which some never start. A node that never starts makes no step, is no other's contact, and what waits for it is no letter
-- that waits: the `Down`s of those that have left do so for good. So it is with the creations of a name that don't come, where each creation is
-- a node of its own, whenever the others start.
use Rattle.std.specs.Prelude.{ℕ, Bool, true, false, not, ◌&&◌, ◌≡◌, None, List, filter}
use Rattle.registry_model.specs.Process.{Nodes}
use Rattle.protocol_model.specs.World.{Opening, in_world, in_cluster, World as WorldOfNodes, left, WorldEvent, At, place, other, opening_world, refusal, run}
use Rattle.protocol_model.specs.Fit.{is_delivery}
use Rattle.lock_answers.specs.Worlds.{Worlds, is_delivery_or_retry, Law}

module _ (o : Opening) (started : Nodes) where
  -- the event is one of a node that starts, and names no other
  abbrev pub is_of_started : WorldEvent → Bool
  is_of_started e = started (place e) && started (other e)

  -- the node is of the world, starts, and hasn't left
  pub record RunsOnce (w : WorldOfNodes) (c : ℕ) : Type 0 where
    pub inside : in_world o c ≡ true
    pub starts : started c ≡ true
    pub stays : left w c ≡ false

  abbrev pub running_of : WorldOfNodes → Nodes
  running_of w c = in_world o c && (started c && not (left w c))

  -- an event of such a node that isn't refused
  pub record IsAccepted (w : WorldOfNodes) (e : WorldEvent) : Type 0 where
    pub starts : is_of_started e ≡ true
    pub unrefused : refusal o w e ≡ None

  -- The worlds of these nodes, of which these start. Events of others are passed over
  abbrev pub of_started : Worlds
  of_started = record {
    opening = o;
    World = WorldOfNodes;
    Event = WorldEvent;
    opened = opening_world o;
    nodes = λ w. w;
    Runs = λ w c. RunsOnce w c;
    running = λ w. running_of w;
    at = λ a e. At a e;
    is_delivery = λ e. is_delivery e;
    is_delivery_or_retry = λ e. is_delivery_or_retry e;
    Accepts = λ w e. IsAccepted w e;
    run = λ w es. run o w (filter is_of_started es);
    played = λ w es. filter is_of_started es;
  }

-- Some nodes of a world may never start: those that are lone from the beginning. Node 0 is none of these: a round that asks nobody is led by it,
-- and though there is no such round, what nodes know of each other is shown without that
pub record MayStart (o : Opening) (started : Nodes) : Type 0 where
  pub joined : (c : ℕ) → in_cluster o c ≡ true → started c ≡ true
  pub least : in_world o 0 ≡ true → started 0 ≡ true

-- A law holds of every world of nodes of which some never start
abbrev pub OfStarted : Law → Type 0
OfStarted L = (o : Opening) (started : Nodes) (es : List WorldEvent) → MayStart o started →
    L (of_started o started) es (run o (opening_world o) (filter (is_of_started o started) es))
