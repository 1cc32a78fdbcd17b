-- What a restart makes of a world of named nodes, and what holds of its nodes at any time.
-- x is a node name, n the node that starts, a to d, f and t are nodes.
use Rattle.std.specs.Prelude.{ℕ, true, false, ◌==◌, ◌≡◌, ◌<◌, ◌+◌, ◌↔◌, Contains, None, filter, fold, map, List, [], ◌∷◌, ◌++◌, ◌≤◌, Some, AllPairs}
use Rattle.registry_model.specs.Process.{Nodes, nobody, at}
use Rattle.registry_model.specs.Registry.{Registry}
use Rattle.registry_model.specs.History.{Told, effect, registry_of}
use Rattle.protocol_model.specs.Letter.{Letter, is_down}
use Rattle.protocol_model.specs.Watch.{nobody_yet}
use Rattle.protocol_model.specs.Node.{Node, Current}
use Rattle.protocol_model.specs.Event.{Answer}
use Rattle.protocol_model.specs.Event.{NoSuchNode}
use Rattle.protocol_model.specs.Turn.{begun}
use Rattle.protocol_model.specs.Registrar.{start}
use Rattle.protocol_model.specs.Reading.{receive}
use Rattle.protocol_model.specs.World.{in_world, in_cluster, left}
use Rattle.creations.specs.NodeNames.{NamedOpening, is_name, name_of, creation_of, opening_of, HasNumber}
use Rattle.creations.specs.NamedWorld.{NamedWorld, NamedEvent, Restart, present_node, has_started, started_nodes, next_node, named_refusal, happens_named, named_answers, after_events, Plain, StillRunning, NotToldYet, CreationsSpent}

-- a lone node that has nothing and made no call, and that was told that these have left
abbrev pub fresh_node : Nodes → ℕ → Node
fresh_node told n = record {
  replica = record { table = []; members = λ c. c == n; told = told; joined = false; notices = λ serial. [] };
  locks = [];
  watch = nobody_yet;
  queue = [];
  current = Current.Free;
  calls = [];
  last_call = 0;
}

module _ (o : NamedOpening) (w : NamedWorld) where
  -- the nodes that have left, rising
  abbrev pub who_left : List ℕ
  who_left = filter (left w.world) (started_nodes o w)

  -- a node of the world that has started and hasn't left
  pub record IsUp (n : ℕ) : Type 0 where
    pub inside : in_world (opening_of o) n ≡ true
    pub started : has_started o w n ≡ true
    pub stays : left w.world n ≡ false

  -- a younger node of its name has started
  abbrev pub IsReplaced : ℕ → Type 0
  IsReplaced d = creation_of o d < w.present (name_of o d)

  -- A node that hasn't started stands as it opened: it is lone, and has nothing; it sent nothing and hasn't left; of each node that has
  -- left the `Down` waits for it, if it is of the world, and nothing else does
  pub record StandsAsOpened (n : ℕ) : Type 0 where
    pub node : w.world.node n ≡ fresh_node nobody n
    pub silent : (t : ℕ) → w.world.links.queue n t ≡ []
    pub stays : left w.world n ≡ false
    pub downs : (d : ℕ) → in_world (opening_of o) n ≡ true → left w.world d ≡ true → w.world.links.queue d n ≡ Letter.Down ∷ []
    pub nothing : (c : ℕ) → left w.world c ≡ false → w.world.links.queue c n ≡ []

  -- What holds of the nodes of all names
  pub record NodesStand : Type 0 where
    -- each name has a node at present
    pub present : (x : ℕ) → HasNumber o (w.present x)
    -- and its number is that of a creation, if there are any
    pub most : (x : ℕ) → 1 ≤ o.last → w.present x ≤ o.last
    -- a node that was replaced has left
    pub older_left : (d : ℕ) → IsReplaced d → left w.world d ≡ true
    -- and each running node was told so
    pub older_told : (c d : ℕ) → IsUp c → IsReplaced d → (w.world.node c).replica.told d ≡ true
    -- who runs is the present node of its name
    pub is_present : (c : ℕ) → IsUp c → c ≡ present_node o w (name_of o c)
    -- of the members of a running node no two have one name
    pub one_member : (c a b : ℕ) → IsUp c → (w.world.node c).replica.members a ≡ true →
        (w.world.node c).replica.members b ≡ true → name_of o a ≡ name_of o b → a ≡ b
    -- who was told of a node was told of all older ones of its name
    pub told_of_older : (c a b : ℕ) → IsUp c → (w.world.node c).replica.told a ≡ true → name_of o a ≡ name_of o b →
        creation_of o b < creation_of o a → (w.world.node c).replica.told b ≡ true
    -- a running node knows of nodes that have started alone: its members, and whom it was told of
    pub members_started : (c a : ℕ) → IsUp c → (w.world.node c).replica.members a ≡ true → has_started o w a ≡ true
    pub told_started : (c a : ℕ) → IsUp c → (w.world.node c).replica.told a ≡ true → has_started o w a ≡ true
    -- who has left was a node of the world
    pub left_inside : (d : ℕ) → left w.world d ≡ true → (in_world (opening_of o) d ≡ true) × (has_started o w d ≡ true)
    -- who hasn't started stands as it opened
    pub not_started : (n : ℕ) → has_started o w n ≡ false → StandsAsOpened n

-- So it is at any time
abbrev pub NodesAlwaysStand : Type 0
NodesAlwaysStand = (o : NamedOpening) (es : List NamedEvent) → NodesStand o (after_events o es)

-- A running node drops what it reads of a node that was replaced, but that it has left: it only begins what waits, as behind any letter.
-- So none of it is read as a letter of the present node of that name
abbrev pub OlderLettersAreDropped : Type 0
OlderLettersAreDropped = (o : NamedOpening) (es : List NamedEvent) (bound c d : ℕ) (number : ℕ → ℕ) (l : Letter) →
    IsUp o (after_events o es) c → IsReplaced o (after_events o es) d → is_down l ≡ false →
    receive bound c number d l (begun ((after_events o es).world.node c)) ≡ start bound c (begun ((after_events o es).world.node c))

-- n is the least running node that wasn't told that the present node of x has left
pub record IsLeastUntold (o : NamedOpening) (w : NamedWorld) (x n : ℕ) : Type 0 where
  pub up : IsUp o w n
  pub untold : (w.world.node n).replica.told (present_node o w x) ≡ false
  pub least : (c : ℕ) → IsUp o w c → c < n → (w.world.node c).replica.told (present_node o w x) ≡ true

module _ (o : NamedOpening) (w : NamedWorld) (x : ℕ) where
  -- x is a name of the world, and its present node has left
  pub record HasGone : Type 0 where
    pub known : is_name o x ≡ true
    pub gone : left w.world (present_node o w x) ≡ true

  -- each running node was told so
  abbrev pub AllAreTold : Type 0
  AllAreTold = (c : ℕ) → IsUp o w c → (w.world.node c).replica.told (present_node o w x) ≡ true

  -- Why a restart of x is refused, and when it is not. Each reason but the first says that those before it aren't there
  pub record RestartSaysWhy : Type 0 where
    pub no_such_node : (named_refusal o w (Restart x) ≡ Some (Plain NoSuchNode)) ↔ (is_name o x ≡ false)
    pub still_running : (named_refusal o w (Restart x) ≡ Some StillRunning)
        ↔ ((is_name o x ≡ true) × (left w.world (present_node o w x) ≡ false))
    pub not_told : (n : ℕ) → (named_refusal o w (Restart x) ≡ Some (NotToldYet n)) ↔ (HasGone × IsLeastUntold o w x n)
    pub spent : (named_refusal o w (Restart x) ≡ Some CreationsSpent) ↔ (HasGone × AllAreTold × (o.last ≤ w.present x))
    pub accepted : (named_refusal o w (Restart x) ≡ None) ↔ (HasGone × AllAreTold × (w.present x < o.last))

-- So it is behind all events
abbrev pub RestartsSayWhy : Type 0
RestartsSayWhy = (o : NamedOpening) (es : List NamedEvent) (x : ℕ) → RestartSaysWhy o (after_events o es) x

-- The registry's own restart of node n: it is told of all that have left
abbrev pub restarted : ℕ → Registry → Registry
restarted n r = record r { told = at r.told n r.left }

-- For a node that was told of nobody it is the notices of all that have left, in any order
abbrev pub RestartIsItsNotices : Type 0
RestartIsItsNotices = (n : ℕ) (ds : List ℕ) (r : Registry) → ((d : ℕ) → (r.left d ≡ true) ↔ Contains ds d) →
    ((d : ℕ) → r.told n d ≡ false) → fold (λ s e. effect e s) r (map (Told n) ds) ≡ restarted n r

-- What a restart that is accepted makes of the world: the next node of the name starts, and nothing else changes
pub record StartsAnew (o : NamedOpening) (before : NamedWorld) (x : ℕ) (after : NamedWorld) (answers : List Answer) : Type 0 where
  pub present : after.present ≡ at before.present x (before.present x + 1)
  -- the new node is lone and has nothing, and was told of exactly those that have left
  pub node : after.world.node (next_node o before x) ≡ fresh_node (left before.world) (next_node o before x)
  -- all others are as they were
  pub others : (a : ℕ) → (a ≡ next_node o before x → ⊥) → after.world.node a ≡ before.world.node a
  -- nothing waits for the new node, and else nothing was sent and nothing read
  pub here : (f : ℕ) → after.world.links.queue f (next_node o before x) ≡ []
  pub elsewhere : (f t : ℕ) → (t ≡ next_node o before x → ⊥) → after.world.links.queue f t ≡ before.world.links.queue f t
  pub departures : left after.world ≡ left before.world
  -- nothing is answered
  pub unanswered : answers ≡ []
  -- the history has the notices of those that had left to the new node, in rising order
  pub history : after.world.history ≡ before.world.history ++ map (Told (next_node o before x)) (who_left o before)
  pub departed : (d : ℕ) → (left before.world d ≡ true) ↔ Contains (who_left o before) d
  pub rising : AllPairs (λ c d. c < d) (who_left o before)
  -- which comes to the registry's own restart of it, and the node before it has left by the registry, too
  pub registry : registry_of (in_cluster (opening_of o)) after.world.history
      ≡ restarted (next_node o before x) (registry_of (in_cluster (opening_of o)) before.world.history)
  pub gone : (registry_of (in_cluster (opening_of o)) before.world.history).left (present_node o before x) ≡ true

-- So it is behind all events
abbrev pub RestartsStartAnew : Type 0
RestartsStartAnew = (o : NamedOpening) (es : List NamedEvent) (x : ℕ) → named_refusal o (after_events o es) (Restart x) ≡ None →
    StartsAnew o (after_events o es) x (happens_named o (after_events o es) (Restart x)) (named_answers o (after_events o es) (Restart x))
