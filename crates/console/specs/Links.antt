-- The processes that are linked to a console.
use Rattle.std.specs.Prelude.{ℕ, Bool, false, not, nat_lt, ◌-◌, slice_get, vec_len, vec_capacity, length, filter, List, [], ◌∷◌, Option, Result, Ok}
use Rattle.std.specs.List.{list_any}
use Rattle.std.specs.Option.{option_map}
use Rattle.registry_model.specs.Process.{Process, is_process}
use Rattle.command_lines.specs.declared.Call.TheVariants.{SetLock}
use Rattle.command_lines.specs.declared.Reply.{Reply}
use Rattle.command_lines.specs.declared.Reply.TheVariants.{Pid}
use Rattle.command_lines.specs.Printing.{pid_text}
use Rattle.node_seats.specs.declared.fault.SeatFault.{SeatFault}
use Rattle.console.specs.declared.links.Links.{Links}
use Rattle.console.specs.declared.orders.Order.{Order}
use Rattle.console.specs.declared.orders.Order.TheVariants.{Call, Exit, Wait}

-- the processes, in the order in which they were linked
abbrev pub linked_in : Links → List Process
linked_in links = links.processes.items

-- there is memory for one more
abbrev pub has_room : Links → Bool
has_room links = nat_lt (vec_len links.processes) (vec_capacity links.processes)

-- the text of the one last linked, if there is one
abbrev pub own_text : List Process → Option (List ℕ)
own_text links = option_map pid_text (slice_get links (length links - 1))

-- the process that this answer to a spawn links
abbrev pub linked_by : Result Reply SeatFault → List Process
linked_by (Ok (Pid p)) = p ∷ []
linked_by _ = []

-- whether an order may wait that goes with one of these processes: its lock call; and any wait where there is one, since they all exit with
-- the console
abbrev pub may_wait : Order → List Process → Bool
may_wait (Call (SetLock holder id nodes retries)) links = list_any (λ q. is_process q holder) links
may_wait (Wait awaited) links = nat_lt 0 (length links)
may_wait _ links = false

-- those that stay linked where this one has exited
abbrev pub without : Process → List Process → List Process
without p links = filter (λ q. not (is_process q p)) links

-- those that stay linked where an order was answered so: an exit that was made unlinks its process
abbrev pub left_by : Order → Result Reply SeatFault → List Process → List Process
left_by (Exit p) (Ok r) links = without p links
left_by _ _ links = links
