-- Programs whose letters go as lines.
use Rattle.std.specs.Prelude.{ℕ, true, ◌≡◌, ◌<◌, List, ◌++◌, map, flat_map}
use Rattle.std.specs.List.{AllByRecursion}
use Rattle.registry_model.specs.Table.{Table}
use Rattle.protocol_model.specs.World.{Opening, in_world}
use Rattle.closings.specs.Laws.{HasARun}
use Rattle.closings.specs.Merging.{events_in, world_behind}
use Rattle.lock_answers.specs.Worlds.{of_nodes, Agrees}
use Rattle.lock_answers.specs.ClientLocks.{ClientLocks}
use Rattle.lock_answers.specs.Leftovers.{NothingIsLeft}
use Rattle.node_loop.specs.Alone.{LogEntry}
use Rattle.node_loop.specs.Seen.{seen_entry}
use Rattle.node_loop.specs.Held.{Written}
use Rattle.node_loop.specs.Telling.{AllTell}
use Rattle.node_loop.specs.declared.item.Stamped.{Stamped}
use Rattle.wire_end.specs.declared.line.LinkLine.{LinkLine}
use Rattle.wire_end.specs.declared.wire_end.Wiring.{Wiring}
use Rattle.wire_end.specs.Dealings.{of_node, dealt_of}
use Rattle.wire_end.specs.Order.{InOrder, KeepsOwn}
use Rattle.wire_end.specs.Printing.{lines_out, text_of_line}

-- what an end in order printed, and is to print, is the texts of its lines
abbrev pub LinesArePrinted : Type 0
LinesArePrinted = (out : List ℕ) (s : Wiring) → InOrder out s → out ++ s.lines ≡ flat_map text_of_line (lines_out s)

-- these are the first of those
abbrev pub Begin : List LinkLine → List LinkLine → Type 0
Begin some whole = (rest : List LinkLine) × (whole ≡ some ++ rest)

-- The ends of a world's nodes, where each has printed this: each is in order, and its node's letters to itself stayed in it. Each letter
-- that was taken of another has the stamp of a step: nobody was told that a node is gone without a word. And what each node read of
-- another begins what that prints for it
pub record AreLinked (o : Opening) (printed : ℕ → List ℕ) (ends : ℕ → Wiring) : Type 0 where
  pub nodes : (a : ℕ) → in_world o a ≡ true → (ends a).node ≡ a
  pub order : (a : ℕ) → in_world o a ≡ true → InOrder (printed a) (ends a)
  pub own : (a : ℕ) → in_world o a ≡ true → KeepsOwn (ends a)
  pub stamped : (f t : ℕ) → in_world o t ≡ true → (f ≡ t → ⊥) → AllByRecursion (λ (l : Stamped). 0 < l.stamp) (of_node f (ends t).taken)
  pub read : (f t : ℕ) → in_world o f ≡ true → in_world o t ≡ true → (f ≡ t → ⊥)
      → Begin (of_node f (ends t).read) (of_node t (lines_out (ends f)))

-- the logs have one run, which the world plays to its end, with these tables; and behind it holds what holds behind each run of a world
pub record PlayAsOne (o : Opening) (logs : ℕ → List LogEntry) (tables : ℕ → Table) : Type 0 where
  pub run : HasARun o logs tables
  pub agrees : Agrees (of_nodes o) (events_in run.steps) (world_behind o run.steps)
  pub locks : ClientLocks (of_nodes o) (events_in run.steps) (world_behind o run.steps)
  pub nothing_is_left : NothingIsLeft (of_nodes o) (events_in run.steps) (world_behind o run.steps)

-- where the nodes' logs and tables tell of what went over such ends, they play as one
abbrev pub EndsHaveARun : Type 0
EndsHaveARun = (o : Opening) (logs : ℕ → Written) (tables : ℕ → Table) (printed : ℕ → List ℕ) (ends : ℕ → Wiring)
    → AllTell o logs tables (λ a. dealt_of (ends a)) → AreLinked o printed ends
    → PlayAsOne o (λ a. map seen_entry (logs a).entries) tables
