-- A node's loop that is sound: its log, its core and its links tell of the same steps.
use Rattle.std.specs.Prelude.{ℕ, Bool, true, false, ◌≡◌, ◌⊎◌, ◌+◌, List, [], ◌++◌, map, MatchResult}
use Rattle.std.specs.List.{All}
use Rattle.std.specs.List.Sorted.{IsStrictlyIncreasing}
use Rattle.protocol_model.specs.Node.{Node, opening_node}
use Rattle.protocol_model.specs.World.{Opening, in_world, in_cluster}
use Rattle.closings.specs.Alone.{Stamped, Made, sent, unread_behind, AreBelow, AreStaying, Plays, node_behind}
use Rattle.closings.specs.Guarded.{DoesIfFit, Vouches}
use Rattle.registry_model.specs.Table.{Table}
use Rattle.term.specs.Nodes.{IsFirst}
use Rattle.term.specs.NodeSets.{set_of}
use Rattle.node_core.specs.CoreState.{CoreState, bound_of}
use Rattle.node_core.specs.Seen.{node_of}
use Rattle.node_log.specs.Seen.{seen_entry}
use Rattle.node_loop.specs.declared.item.Item.{Item}
use Rattle.node_loop.specs.Said.{IsSaid}
use Rattle.node_loop.specs.Held.{Looping, Written}
use Rattle.node_loop.specs.Steps.{Outcome}
use Rattle.node_loop.specs.Dealings.{Dealt, nothing_dealt, letters_in, took, put, receivers, waiting_for, Deals}

-- a node is one of a world that opens so, of the first nodes of their names
pub record IsNodeOf (o : Opening) (h : CoreState) : Type 0 where
  pub bound : o.bound ≡ bound_of h.world
  pub inside : in_world o ≡ set_of h.world
  pub here : set_of h.world h.name ≡ true
  pub first : All IsFirst h.world

-- what the node that this is was at its opening
abbrev pub opened : Opening → CoreState → Node
opened o h = opening_node (in_cluster o) h.name

-- The log is that of steps which the node did from its opening on, as far as it can say so alone, with the letters that it took. Behind
-- them it stands as its core says, and the letters that they send are those that it put on their way, and then those in its tray.
-- As long as it hasn't left, these letters of those that it took are unread
pub record Stands (o : Opening) (unread : ℕ → List Stamped) (a : Looping) (d : Dealt) : Type 0 where
  pub of : IsNodeOf o a.core
  pub named : a.log.node ≡ a.core.name
  pub world : a.world ≡ a.core.world
  pub rising : IsStrictlyIncreasing a.core.world
  pub course : List Made
  pub logged : map (λ m. m.entry) course ≡ map seen_entry a.log.entries
  pub plays : Plays (DoesIfFit (IsSaid (in_world o))) o a.core.name (took d) (opened o a.core) course
  pub node : node_behind (opened o a.core) course ≡ node_of a.core
  pub below : AreBelow (a.stamp + 1) course
  pub running : a.left ≡ false → AreStaying course × (unread_behind (took d) course ≡ unread)
  pub known : (f : ℕ) → in_world o f ≡ false → took d f ≡ []
  pub tray : receivers a.tray ≡ a.core.world
  pub sends : (t : ℕ) → in_world o t ≡ true → sent t course ≡ put d t ++ letters_in (waiting_for t a.tray)

-- nothing is unread
abbrev pub IsSound : Opening → Looping → Dealt → Type 0
IsSound o a d = Stands o (λ f. []) a d

-- where its core is the one that its node opens with, and it has dealt in nothing, a loop is sound
abbrev pub BeginsSound : CoreState → Looping → Type 0
BeginsSound h a = (o : Opening) → IsNodeOf o h → node_of h ≡ opened o h → IsSound o a nothing_dealt

-- where the thread ends: the log is that of such steps still, the core stands so, and what was put on its way begins what they send
pub record EndsSound (o : Opening) (a : Looping) (d : Dealt) : Type 0 where
  pub of : IsNodeOf o a.core
  pub named : a.log.node ≡ a.core.name
  pub course : List Made
  pub logged : map (λ m. m.entry) course ≡ map seen_entry a.log.entries
  pub node : node_behind (opened o a.core) course ≡ node_of a.core
  pub vouches : Vouches (IsSaid (in_world o)) o a.core.name (took d) (put d) course

-- What a log and a table tell of their node, whose thread dealt in so much: the log is that of steps which the node vouches for, and
-- behind them it has the table
pub record Tells (o : Opening) (log : Written) (table : Table) (d : Dealt) : Type 0 where
  pub course : List Made
  pub logged : map (λ m. m.entry) course ≡ map seen_entry log.entries
  pub vouches : Vouches (IsSaid (in_world o)) o log.node (took d) (put d) course
  pub last : (node_behind (opening_node (in_cluster o) log.node) course).replica.table ≡ table

-- what a loop that is sound, or that ended so, leaves behind tells so of its node
abbrev pub LeavesSound : Looping → Written → Table → Type 0
LeavesSound a log table = (o : Opening) (d : Dealt) → IsSound o a d ⊎ EndsSound o a d → Tells o log table d

module _ {S : Type 0} (posts : S → ℕ → Item → S → Type 0) (takes : S → ℕ → Item → S → Type 0) where
  -- over any links that lead inside its world, and do so still, whatever they deal in, a sound loop stays sound where it goes on, and ends
  -- sound where it doesn't
  abbrev pub KeepsSound : Looping → S → Outcome → Looping → S → Type 0
  KeepsSound a s r b t = (o : Opening) (inside : S → Bool) (dealt : S → Dealt) → Deals posts takes o inside dealt → inside s ≡ true
      → IsSound o a (dealt s)
      → (inside t ≡ true) × MatchResult r (λ _. IsSound o b (dealt t)) (λ _. EndsSound o b (dealt t))
