-- A node's loop in a world whose nodes come back. The nodes of that world are those of all creations of its names, each a node of its own; a
-- loop knows those that have started, as far as its node was told. Of what it takes each letter is such as these may say, so each of its
-- steps is the protocol's, whatever others do.
use Rattle.std.specs.Prelude.{ℕ, Bool, true, false, ◌≡◌, ◌≤◌, ◌⊎◌, ◌+◌, List, [], ◌++◌, map, MatchResult}
use Rattle.std.specs.List.Sorted.{IsStrictlyIncreasing}
use Rattle.registry_model.specs.Table.{Table}
use Rattle.protocol_model.specs.Node.{Node}
use Rattle.protocol_model.specs.World.{Opening, in_world}
use Rattle.closings.specs.Alone.{Stamped, Made, Does, sent, unread_behind, StartsAbove, AreBelow, AreStaying, Plays, node_behind}
use Rattle.closings.specs.Guarded.{Begins}
use Rattle.term.specs.Nodes.{name_of}
use Rattle.term.specs.NodeSets.{set_of, with_older}
use Rattle.node_core.specs.CoreState.{CoreState, bound_of, IsNext}
use Rattle.node_core.specs.Seen.{node_of}
use Rattle.node_core.specs.Steps.{IsSaidBy}
use Rattle.node_log.specs.Seen.{seen_entry}
use Rattle.node_loop.specs.declared.item.Item.{Item}
use Rattle.node_loop.specs.declared.item.Item.TheVariants.{Letter, Task}
use Rattle.node_loop.specs.Held.{Looping, Written, with_next}
use Rattle.node_loop.specs.Steps.{Outcome}
use Rattle.node_loop.specs.Dealings.{Dealt, nothing_dealt, with_sent, with_taken, letters_in, took, put, receivers, waiting_for}

-- a world has all nodes of a name or none
abbrev pub IsByName : Opening → Type 0
IsByName o = (a b : ℕ) → name_of a ≡ name_of b → in_world o a ≡ in_world o b

-- The node is one of a world that opens so, as are all that have started, as far as it was told
pub record IsNodeAmong (o : Opening) (h : CoreState) : Type 0 where
  pub bound : o.bound ≡ bound_of h.world
  pub inside : (c : ℕ) → with_older h.world c ≡ true → in_world o c ≡ true
  pub here : set_of h.world h.name ≡ true

-- what node a of this world takes of node f: a letter that f may say, or a task
abbrev pub IsHeardOf : List ℕ → ℕ → ℕ → Item → Type 0
IsHeardOf world a f (Letter l) = IsSaidBy world a f l.letter
IsHeardOf world a f (Task t) = Unit {0}

module _ {S : Type 0} (posts : S → ℕ → Item → S → Type 0) (takes : S → ℕ → Item → S → Type 0) where
  -- Links of a node with this name, that knows of this world, deal as `dealt` says as long as they lead inside it, as `inside` tells: each
  -- sending is behind the others to its node, and each letter that is taken behind the others from its node, which has started, and is one
  -- that it may say
  pub record DealsAmong (world : List ℕ) (name : ℕ) (inside : S → Bool) (dealt : S → Dealt) : Type 0 where
    pub sends : (s : S) (to : ℕ) (i : Item) (t : S) → inside s ≡ true → posts s to i t
        → (inside t ≡ true) × (dealt t ≡ with_sent to i (dealt s))
    pub gives : (s : S) (from : ℕ) (i : Item) (t : S) → inside s ≡ true → takes s from i t
        → (inside t ≡ true) × (with_older world from ≡ true) × IsHeardOf world name from i × (dealt t ≡ with_taken from i (dealt s))

-- how a node began: it stood so, and its steps have stamps above this one
pub record Start : Type 0 where
  pub node : Node
  pub stamp : ℕ

-- The log is that of steps which the node did from its start on, with the letters that it took. Behind them it stands as its core says. What
-- they send to a node that it knows to be at present is what it put on its way, and then what waits in its tray; what it put on its way to an
-- older one begins what they send there; and to one that it doesn't know they send nothing, until it leaves. As long as it hasn't left, these
-- letters of those that it took are unread
pub record StandsFrom (o : Opening) (start : Start) (unread : ℕ → List Stamped) (a : Looping) (d : Dealt) : Type 0 where
  pub of : IsNodeAmong o a.core
  pub named : a.log.node ≡ a.core.name
  pub world : a.world ≡ a.core.world
  pub rising : IsStrictlyIncreasing a.core.world
  pub course : List Made
  pub logged : map (λ m. m.entry) course ≡ map seen_entry a.log.entries
  pub plays : Plays Does o a.core.name (took d) start.node course
  pub node : node_behind start.node course ≡ node_of a.core
  pub starts : StartsAbove start.stamp course
  pub above : start.stamp ≤ a.stamp
  pub below : AreBelow (a.stamp + 1) course
  pub running : a.left ≡ false → AreStaying course × (unread_behind (took d) course ≡ unread)
  pub known : (f : ℕ) → in_world o f ≡ false → took d f ≡ []
  pub tray : receivers a.tray ≡ a.core.world
  pub sends : (t : ℕ) → set_of a.core.world t ≡ true → sent t course ≡ put d t ++ letters_in (waiting_for t a.tray)
  pub older : (t : ℕ) → set_of a.core.world t ≡ false → with_older a.core.world t ≡ true → Begins (put d t) (sent t course)
  pub later : (t : ℕ) → with_older a.core.world t ≡ false → (put d t ≡ []) × (a.left ≡ false → sent t course ≡ [])

-- nothing is unread
abbrev pub IsSoundFrom : Opening → Start → Looping → Dealt → Type 0
IsSoundFrom o start a d = StandsFrom o start (λ f. []) a d

-- a loop begins so, whatever its core is, where that is one of the world
abbrev pub BeginsSoundFrom : CoreState → ℕ → Looping → Type 0
BeginsSoundFrom h stamp a = (o : Opening) → IsNodeAmong o h → IsSoundFrom o (record { node = node_of h; stamp = stamp }) a nothing_dealt

-- what node a says at its end, with the letters that it took, and those that it put for each node
pub record VouchesFrom (o : Opening) (start : Start) (a : ℕ) (took put : ℕ → List Stamped) (ds : List Made) : Type 0 where
  pub plays : Plays Does o a took start.node ds
  pub starts : StartsAbove start.stamp ds
  pub known : (f : ℕ) → in_world o f ≡ false → took f ≡ []
  pub puts : (t : ℕ) → in_world o t ≡ true → Begins (put t) (sent t ds)

-- where the thread ends: the log is that of such steps still, and the core stands so
pub record EndsSoundFrom (o : Opening) (start : Start) (a : Looping) (d : Dealt) : Type 0 where
  pub of : IsNodeAmong o a.core
  pub named : a.log.node ≡ a.core.name
  pub course : List Made
  pub logged : map (λ m. m.entry) course ≡ map seen_entry a.log.entries
  pub node : node_behind start.node course ≡ node_of a.core
  pub vouches : VouchesFrom o start a.core.name (took d) (put d) course

-- what a log and a table tell of their node, which began so and dealt in so much
pub record TellsFrom (o : Opening) (start : Start) (log : Written) (table : Table) (d : Dealt) : Type 0 where
  pub course : List Made
  pub logged : map (λ m. m.entry) course ≡ map seen_entry log.entries
  pub vouches : VouchesFrom o start log.node (took d) (put d) course
  pub last : (node_behind start.node course).replica.table ≡ table

-- what a loop that is sound, or that ended so, leaves behind tells so of its node
abbrev pub LeavesSoundFrom : Looping → Written → Table → Type 0
LeavesSoundFrom a log table = (o : Opening) (start : Start) (d : Dealt) → IsSoundFrom o start a d ⊎ EndsSoundFrom o start a d
    → TellsFrom o start log table d

module _ {S : Type 0} (posts : S → ℕ → Item → S → Type 0) (takes : S → ℕ → Item → S → Type 0) where
  -- over any links that lead inside the world that it knows, and do so still, a sound loop stays sound where it goes on, and ends sound where
  -- it doesn't
  abbrev pub KeepsSoundFrom : Looping → S → Outcome → Looping → S → Type 0
  KeepsSoundFrom a s r b t = (o : Opening) (start : Start) (inside : S → Bool) (dealt : S → Dealt)
      → DealsAmong posts takes a.core.world a.core.name inside dealt → inside s ≡ true → IsSoundFrom o start a (dealt s)
      → (inside t ≡ true) × MatchResult r (λ _. IsSoundFrom o start b (dealt t)) (λ _. EndsSoundFrom o start b (dealt t))

-- The next node of a name may start, as far as this one knows, which runs: the one before it is another of the world, in which none is of that name
-- besides, and it was told that it has left
pub record MayStart (older next : ℕ) (a : Looping) : Type 0 where
  pub next_is : IsNext older next
  pub another : older ≡ a.core.name → ⊥
  pub running : a.left ≡ false
  pub new : with_older a.core.world next ≡ false
  pub known : set_of a.core.world older ≡ true
  pub told : with_older a.core.told older ≡ true

-- so a loop that is sound stays so: that a node has started is no step of any other
abbrev pub StartsKeepSound : Type 0
StartsKeepSound = (o : Opening) (start : Start) (older next : ℕ) (a : Looping) (d : Dealt) → IsByName o → MayStart older next a
    → IsSoundFrom o start a d → IsSoundFrom o start (with_next older next a) d
