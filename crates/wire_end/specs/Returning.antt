-- Programs whose letters go as lines, and whose nodes come back: each creation of a name is a node of its own, which one program runs, or none.
use Rattle.std.specs.Prelude.{ℕ, Bool, true, false, ◌≡◌, ◌<◌, ◌≤◌, ◌+◌, ◌-◌, List, [], ◌∷◌, ◌++◌, map, flat_map, if◌then◌else◌}
use Rattle.std.specs.List.{All, AllByRecursion, sum_by}
use Rattle.registry_model.specs.Process.{Nodes}
use Rattle.registry_model.specs.Table.{Table}
use Rattle.protocol_model.specs.Event.{last_u32}
use Rattle.protocol_model.specs.Letter.{Letter as AnyLetter}
use Rattle.protocol_model.specs.Node.{Node, opening_node}
use Rattle.protocol_model.specs.World.{Opening, WorldEvent, in_world, in_cluster, other}
use Rattle.creations.specs.NodeNames.{NamedOpening, opening_of, first_nodes}
use Rattle.creations.specs.Restarts.{fresh_node}
use Rattle.creations.specs.SomeStarted.{of_started}
use Rattle.closings.specs.Laws.{HasARun}
use Rattle.closings.specs.Merging.{events_in, world_behind}
use Rattle.lock_answers.specs.Worlds.{Agrees}
use Rattle.lock_answers.specs.ClientLocks.{ClientLocks}
use Rattle.lock_answers.specs.Leftovers.{NothingIsLeft}
use Rattle.term.specs.Nodes.{text_in, name_of, creation_of}
use Rattle.term.specs.NodeSets.{IsNodeSet, set_of, with_older}
use Rattle.node_loop.specs.Seen.{seen_entry}
use Rattle.node_loop.specs.Alone.{LogEntry, Stamped as StampedLetter, sent}
use Rattle.node_loop.specs.Held.{Written}
use Rattle.node_loop.specs.Returning.{Start, TellsFrom}
use Rattle.node_loop.specs.declared.item.Stamped.{Stamped}
use Rattle.wire_end.specs.declared.wire_end.Wiring.{Wiring}
use Rattle.wire_end.specs.Dealings.{of_node, dealt_of}
use Rattle.wire_end.specs.Order.{InOrder, KeepsOwn}
use Rattle.wire_end.specs.Printing.{lines_out}
use Rattle.wire_end.specs.Runs.{Begin}

-- What there is of a program: who had left when it began, of each name the last one, and the stamp above which its steps are; its log and its
-- table; what it printed, and its end of lines
pub record Program : Type 0 where
  pub left : List ℕ
  pub stamp : ℕ
  pub log : Written
  pub table : Table
  pub printed : List ℕ
  pub end : Wiring

-- node n as it starts: as it opens, where nobody has left; and else it is lone, has nothing, and was told of those that have
abbrev pub started_node : Opening → ℕ → List ℕ → Node
started_node o n [] = opening_node (in_cluster o) n
started_node o n (d ∷ ds) = fresh_node (with_older (d ∷ ds)) n

abbrev pub start_of : Opening → ℕ → Program → Start
start_of o n p = record { node = started_node o n p.left; stamp = p.stamp }

-- how many have left, where these are the last ones of their names
abbrev pub count_left : List ℕ → ℕ
count_left left = sum_by creation_of left

-- and who they are, rising
abbrev pub all_left : NamedOpening → List ℕ → List ℕ
all_left o left = flat_map (λ d. first_nodes o (text_in d) (creation_of d)) left

-- What a node does when it starts, before any step of its program: it reads of each of these that it has left, by steps with stamps behind this
-- one. That is what a restart is there
abbrev pub notices_from : ℕ → ℕ → List ℕ → List LogEntry
notices_from n stamp [] = []
notices_from n stamp (d ∷ ds) =
    record { stamp = stamp + 1; event = WorldEvent.Deliver d n; answers = [] } ∷ notices_from n (stamp + 1) ds

abbrev pub notices_of : NamedOpening → ℕ → Program → List LogEntry
notices_of o n p = notices_from n (p.stamp - count_left p.left) (all_left o p.left)

-- of these letters there is one: that its sender has left, by a step with no greater stamp
pub record IsGone (ls : List StampedLetter) (stamp : ℕ) : Type 0 where
  pub by : ℕ
  pub only : ls ≡ record { stamp = by; letter = AnyLetter.Down } ∷ []
  pub before : by ≤ stamp

-- these are the last ones of names: they are listed as a set is, and no two have one name
pub record AreLastOnes (left : List ℕ) : Type 0 where
  pub set : IsNodeSet left
  pub one : (a b : ℕ) → set_of left a ≡ true → set_of left b ≡ true → name_of a ≡ name_of b → a ≡ b

-- The programs of the nodes that ran, of those that a world of names can have: number 0 is that of no name, for no name is the empty text.
-- Each tells of its node from its start on, its end is in order, and its node's letters to itself stayed in it. Each letter that was taken of
-- another has the stamp of a step: nobody was told by a line that a node is gone without a word. What each read of another that ran begins
-- what that printed for it, and of one that didn't run it read nothing, and it asked no such one to join. And who had left when a node began
-- ran, and sent it nothing but that it left, by a step whose stamp, and those of the notices behind it, aren't above the one with which it
-- began
pub record ArePrograms (o : NamedOpening) (ran : Nodes) (programs : ℕ → Program) : Type 0 where
  pub numbers : o.last ≡ last_u32
  pub nameless : in_world (opening_of o) 0 ≡ false
  pub inside : (n : ℕ) → ran n ≡ true → in_world (opening_of o) n ≡ true
  pub founder : (n : ℕ) → in_cluster (opening_of o) n ≡ true → (ran n ≡ true) × ((programs n).left ≡ [])
  pub nodes : (n : ℕ) → ran n ≡ true → (programs n).end.node ≡ n
  pub logs : (n : ℕ) → ran n ≡ true → (programs n).log.node ≡ n
  pub tell : (n : ℕ) → ran n ≡ true
      → TellsFrom (opening_of o) (start_of (opening_of o) n (programs n)) (programs n).log (programs n).table (dealt_of (programs n).end)
  pub order : (n : ℕ) → ran n ≡ true → InOrder (programs n).printed (programs n).end
  pub own : (n : ℕ) → ran n ≡ true → KeepsOwn (programs n).end
  pub stamped : (f t : ℕ) → ran t ≡ true → (f ≡ t → ⊥) → AllByRecursion (λ (l : Stamped). 0 < l.stamp) (of_node f (programs t).end.taken)
  pub read : (f t : ℕ) → ran f ≡ true → ran t ≡ true → (f ≡ t → ⊥)
      → Begin (of_node f (programs t).end.read) (of_node t (lines_out (programs f).end))
  pub strange : (f t : ℕ) → ran f ≡ false → ran t ≡ true → of_node f (programs t).end.read ≡ []
  pub contacts : (n : ℕ) → ran n ≡ true → All (λ (e : LogEntry). ran (other e.event) ≡ true) (map seen_entry (programs n).log.entries)
  pub lefts : (n : ℕ) → ran n ≡ true → AreLastOnes (programs n).left
  pub room : (n : ℕ) → ran n ≡ true → count_left (programs n).left ≤ (programs n).stamp
  pub gone_ran : (d n : ℕ) → ran n ≡ true → with_older (programs n).left d ≡ true → ran d ≡ true
  pub gone : (d n : ℕ) (d_ran : ran d ≡ true) → ran n ≡ true → with_older (programs n).left d ≡ true
      → IsGone (sent n (tell d d_ran).course) ((programs n).stamp - count_left (programs n).left)
  -- a node that starts isn't told of itself, and of no node by a line of which it was told at its start
  pub apart : (n : ℕ) → ran n ≡ true → with_older (programs n).left n ≡ false
  pub once : (d n : ℕ) → ran n ≡ true → with_older (programs n).left d ≡ true → of_node d (programs n).end.taken ≡ []

-- the log of each node: the notices of its start, and then the steps of its program; and its table
abbrev pub log_of : NamedOpening → ℕ → Bool → Program → List LogEntry
log_of o n ran p = if ran then notices_of o n p ++ map seen_entry p.log.entries else []

abbrev pub table_of : Bool → Program → Table
table_of ran p = if ran then p.table else []

-- The logs of all have one run, which the world of the nodes of all creations plays to its end, with these tables; and behind it holds what holds
-- behind each run of a world in which some nodes never start: of those that ran
pub record PlayByName (o : NamedOpening) (ran : Nodes) (logs : ℕ → List LogEntry) (tables : ℕ → Table) : Type 0 where
  pub run : HasARun (opening_of o) logs tables
  pub agrees : Agrees (of_started (opening_of o) ran) (events_in run.steps) (world_behind (opening_of o) run.steps)
  pub locks : ClientLocks (of_started (opening_of o) ran) (events_in run.steps) (world_behind (opening_of o) run.steps)
  pub nothing_is_left : NothingIsLeft (of_started (opening_of o) ran) (events_in run.steps) (world_behind (opening_of o) run.steps)

abbrev pub NamedEndsHaveARun : Type 0
NamedEndsHaveARun = (o : NamedOpening) (ran : Nodes) (programs : ℕ → Program) → ArePrograms o ran programs
    → PlayByName o ran (λ n. log_of o n (ran n) (programs n)) (λ n. table_of (ran n) (programs n))
