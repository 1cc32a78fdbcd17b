-- What contracts see of nodes whose threads are yet to start.
use Rattle.std.specs.Prelude.{ℕ, ◌≡◌, ◌+◌, List, [], map}
use Rattle.node_loop.specs.Openings.{Opened}
use Rattle.node_loop.specs.NodeCoreState.{opening_core}
use Rattle.node_loop.specs.declared.item.Item.{Item}
use Rattle.node_seats.specs.Lines.{Sent}
use Rattle.node_threads.specs.Wires.{Wired, name_of, line_to}

-- the node, and how many lines into its inbox were made
pub record Berthed : Type 0 where
  pub wired : Wired
  pub made : ℕ

-- the nodes of these
abbrev pub wired_of : List Berthed → List Wired
wired_of bs = map (λ b. b.wired) bs

-- the next line into its inbox
abbrev pub next_line : Berthed → Sent Item
next_line b = line_to b.made b.wired.inbox

-- a line more was made
abbrev pub one_more : Berthed → Berthed
one_more b = record b { made = b.made + 1 }

-- what doesn't change as the nodes are connected: the inbox and the core
abbrev pub opened_of : Berthed → Wired
opened_of b = record b.wired { lines = [] }

-- with its cluster's own line alone, and with the core of this opening
pub record IsOpened (o : Opened) (b : Berthed) : Type 0 where
  pub made : b.made ≡ 1
  pub core : b.wired.core ≡ opening_core o.nodes o.cluster (name_of b.wired)
