-- What comes off an inbox.
use Rattle.std.specs.Prelude.{ℕ, ◌-◌, ◌==◌, Option, Some, None, List, [], ◌∷◌, map, if◌then◌else◌}
use Rattle.std.specs.List.{flat_map, slice_get}
use Rattle.node_loop.specs.declared.item.Item.{Item}
use Rattle.node_loop.specs.declared.item.Item.TheVariants.{Letter, Task as TaskItem}
use Rattle.node_loop.specs.declared.item.Task.{Task}
use Rattle.node_seats.specs.declared.parcel.Parcel.{Parcel}
use Rattle.node_seats.specs.Lines.{Sent}

-- the nodes that these lines lead to
abbrev pub receivers : List (Sent Item) → List ℕ
receivers lines = map (λ line. line.receiver) lines

-- the node whose line has this number at an inbox: those of these nodes have the numbers from 1 on
abbrev pub node_under : ℕ → List ℕ → Option ℕ
node_under number nodes = if number == 0 then None else slice_get nodes (number - 1)

-- the letter of an item, with the node whose line it came by, if it is one of a node
abbrev pub letter_by : Item → Option ℕ → List (ℕ × Item)
letter_by (TaskItem t) from = []
letter_by (Letter l) None = []
letter_by (Letter l) (Some from) = (from, Letter l) ∷ []

-- the letters of nodes, of all that came off an inbox
abbrev pub letters_of : List ℕ → List (Parcel Item) → List (ℕ × Item)
letters_of nodes parcels = flat_map (λ p. letter_by p.item (node_under p.number nodes)) parcels

-- an item is a task, or none
abbrev pub task_in : Item → List Task
task_in (Letter l) = []
task_in (TaskItem t) = t ∷ []

-- the tasks, whoever asked for them
abbrev pub tasks_of : List (Parcel Item) → List Task
tasks_of parcels = flat_map (λ p. task_in p.item) parcels
