-- How much there is in a world: each letter, operation and lock call, and each name or kill that it has, counts one. The work is
-- bounded by that. b: above all nodes; up: the nodes that count.
use Rattle.std.specs.Prelude.{ℕ, ◌+◌, ◌*◌, ◌≤◌, length, List}
use Rattle.std.specs.List.{sum_by}
use Rattle.registry_model.specs.Process.{Nodes}
use Rattle.protocol_model.specs.Letter.{Letter}
use Rattle.protocol_model.specs.Node.{Node, Op, Current}
use Rattle.protocol_model.specs.World.{Opening, World, WorldEvent}
use Rattle.no_dead_end.specs.Weights.{sum_below, when}
use Rattle.named_events.specs.Worlds.{running}
use Rattle.no_dead_end.specs.Work.{size, work}

-- an operation, with the names that it brings
abbrev pub units_of_op : Op → ℕ
units_of_op (Op.Admission j pairs) = 1 + length pairs
units_of_op op = 1

-- what the registrar is at
abbrev pub units_of_current : Current → ℕ
units_of_current (Current.Asking op r) = units_of_op op
units_of_current (Current.Waiting op) = units_of_op op
units_of_current (Current.Writing op asked awaited reply) = units_of_op op
units_of_current _ = 0

-- with its queue, its table and its lock calls
abbrev pub units_of_node : Node → ℕ
units_of_node v =
    units_of_current v.current + sum_by units_of_op v.queue + length v.replica.table + length v.calls

-- a letter, with the names and kills that it brings
abbrev pub units_of_letter : Letter → ℕ
units_of_letter (Letter.JoinAsk pairs) = 1 + length pairs
units_of_letter (Letter.Admit j s) = 1 + length s.puts + length s.fate.kills
units_of_letter (Letter.Welcome members pairs told fate) = 1 + length pairs + length fate.kills
units_of_letter l = 1

-- all nodes that count, with the letters that wait for them
abbrev pub all_units : ℕ → Nodes → World → ℕ
all_units b up w = sum_below b (λ c. when (up c)
    (units_of_node (w.node c) + sum_below b (λ f. sum_by units_of_letter (w.links.queue f c))))

abbrev pub units : Opening → World → ℕ
units o w = all_units o.bound (running o w) w

module _ (o : Opening) (es : List WorldEvent) (w : World) where
  -- The work is at most 16 letters for each unit and node
  abbrev pub WorkIsBounded : Type 0
  WorkIsBounded = work o w ≤ units o w * (16 * size o)
