-- Nodes that are played alone: each by its own log, and by the letters that the others' logs send it.
use Rattle.std.specs.Prelude.{ℕ, Bool, true, false, ◌≡◌, ◌==◌, ◌<◌, None, map, flat_map, drop, List, [], ◌∷◌, if◌then◌else◌}
use Rattle.protocol_model.specs.Letter.{Letter}
use Rattle.protocol_model.specs.Node.{Node, opening_node}
use Rattle.protocol_model.specs.Event.{Event, Answer, causes, first_cause}
use Rattle.protocol_model.specs.Turn.{Send, Turn, begun, sent_to}
use Rattle.protocol_model.specs.Calling.{event}
use Rattle.protocol_model.specs.Reading.{receive}
use Rattle.protocol_model.specs.World.{Opening, in_world, in_cluster, WorldEvent, At, Deliver, place, other}

-- a letter, and the stamp of the step that sent it
pub record Stamped : Type 0 where
  pub stamp : ℕ
  pub letter : Letter

-- a step as the log of its node has it
pub record LogEntry : Type 0 where
  pub stamp : ℕ
  pub event : WorldEvent
  pub answers : List Answer

-- a step, and what no log has of it: the node behind it, and what it sends
pub record Made : Type 0 where
  pub entry : LogEntry
  pub after : Node
  pub sends : List Send

-- these letters, with this stamp
abbrev pub stamped : ℕ → List Letter → List Stamped
stamped n ls = map (λ l. record { stamp = n; letter = l }) ls

-- the letters of a step to node c, with its stamp
abbrev pub letters_to : ℕ → Made → List Stamped
letters_to c d = stamped d.entry.stamp (sent_to c d.sends)

-- all that these steps send to node c, the oldest first
abbrev pub sent : ℕ → List Made → List Stamped
sent c ds = flat_map (letters_to c) ds

-- the turn is that of the step
pub record IsTurnOf (d : Made) (u : Turn) : Type 0 where
  pub node : u.node ≡ d.after
  pub sends : u.sends ≡ d.sends
  pub answers : u.answers ≡ d.entry.answers

-- Node a reads the oldest of these letters from f, which was sent by a step of a lesser stamp. A node alone can't know which
-- numbers the joins of others have, which history entries have: whatever they are, its turn is that of the step
abbrev pub Reads : Opening → ℕ → ℕ → List Stamped → Node → Made → Type 0
Reads o a f [] v d = ⊥
Reads o a f (l ∷ ls) v d =
    (l.stamp < d.entry.stamp) × ((number : ℕ → ℕ) → IsTurnOf d (receive o.bound a number f l.letter (begun v)))

-- a node that stands so, and has these letters of each other one to read, does what the step says
abbrev pub Does : Opening → (ℕ → List Stamped) → Node → Made → WorldEvent → Type 0
Does o letters v d (At a e) = (first_cause (causes a v e) ≡ None) × IsTurnOf d (event o.bound a (in_world o) e (begun v))
Does o letters v d (Deliver f t) = Reads o t f (letters f) v d

-- what is left to be read
abbrev pub unread_after : WorldEvent → (ℕ → List Stamped) → ℕ → List Stamped
unread_after (At a e) letters f = letters f
unread_after (Deliver x t) letters f = if f == x then drop 1 (letters f) else letters f

-- the node leaves
abbrev pub is_leave : WorldEvent → Bool
is_leave (At a Event.Leave) = true
is_leave _ = false

-- what is left to be read behind all these steps
abbrev pub unread_behind : (ℕ → List Stamped) → List Made → ℕ → List Stamped
unread_behind letters [] = letters
unread_behind letters (d ∷ ds) = unread_behind (unread_after d.entry.event letters) ds

-- the first of these steps, if there is one, has a stamp above this one
abbrev pub StartsAbove : ℕ → List Made → Type 0
StartsAbove n [] = Unit {0}
StartsAbove n (d ∷ ds) = n < d.entry.stamp

-- all of these steps have stamps below this one
abbrev pub AreBelow : ℕ → List Made → Type 0
AreBelow n [] = Unit {0}
AreBelow n (d ∷ ds) = (d.entry.stamp < n) × AreBelow n ds

-- the node leaves in none of these steps
abbrev pub AreStaying : List Made → Type 0
AreStaying [] = Unit {0}
AreStaying (d ∷ ds) = (is_leave d.entry.event ≡ false) × AreStaying ds

-- Doing: what it is that a node does a step
module _ (Doing : Opening → (ℕ → List Stamped) → Node → Made → WorldEvent → Type 0) where
  -- node a does the step; those behind it have greater stamps, and there are none where it leaves
  pub record IsStep (o : Opening) (a : ℕ) (letters : ℕ → List Stamped) (v : Node) (d : Made) (ds : List Made) : Type 0 where
    pub own : place d.entry.event ≡ a
    pub here : in_world o a ≡ true
    pub known : in_world o (other d.entry.event) ≡ true
    pub does : Doing o letters v d d.entry.event
    pub rises : StartsAbove d.entry.stamp ds
    pub last : is_leave d.entry.event ≡ true → ds ≡ []

  -- node a, which stands so, does these steps, and has these letters to read
  abbrev pub Plays : Opening → ℕ → (ℕ → List Stamped) → Node → List Made → Type 0
  Plays o a letters v [] = Unit {0}
  Plays o a letters v (d ∷ ds) =
      IsStep o a letters v d ds × Plays o a (unread_after d.entry.event letters) d.after ds

  -- each node does its steps from its opening on; the kth letter that it reads of another is the kth that the other's steps send it
  abbrev pub AllPlay : Opening → (ℕ → List Made) → Type 0
  AllPlay o course = (a : ℕ) → Plays o a (λ f. sent a (course f)) (opening_node (in_cluster o) a) (course a)

-- how a node stands behind these steps
abbrev pub node_behind : Node → List Made → Node
node_behind v [] = v
node_behind v (d ∷ ds) = node_behind d.after ds

-- the steps of nodes are consistent: each node does its own, played alone
abbrev pub AreConsistent : Opening → (ℕ → List Made) → Type 0
AreConsistent o course = AllPlay Does o course
