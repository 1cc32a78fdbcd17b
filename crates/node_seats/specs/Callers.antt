-- What contracts see of a caller, and of the hub that it shares.
use Rattle.std.specs.Prelude.{ℕ, ◌+◌, ◌≡◌, ◌≤◌, ◌⊎◌, Option, Some, None, List}
use mathlib.Core.List.{IsPrefix}
use Rattle.shared_table.specs.declared.LocalEvent.{LocalEvent}
use Rattle.shared_table.specs.declared.Ticket.{Ticket}
use Rattle.shared_table.specs.declared.Item.{Item}
use Rattle.shared_table.specs.declared.Item.TheVariants.{Task}
use Rattle.node_seats.specs.declared.caller.Caller.{Caller}
use Rattle.node_seats.specs.declared.fault.SeatFault.{SeatFault}
use Rattle.node_seats.specs.declared.fault.SeatFault.TheVariants.{NoSuchNode, NodeLeft, Closed, Step}
use Rattle.node_seats.specs.declared.hub.Hub.{Hub}
use Rattle.node_seats.specs.declared.place.Place.{Place}
use Rattle.term.specs.declared.limits.TheConstants.{MOST_SEATS, SEAT_NUMBERS}
use Rattle.shared_table.specs.Readers.{Seen}
use Rattle.node_seats.specs.Lines.{with_parcel, events_on}
use Rattle.node_seats.specs.Addresses.{Inbox}

-- the node that it asks
abbrev pub name_of : Caller → ℕ
name_of c = c.node

-- the inbox into which it puts what it asks, and the book of the table that it reads
abbrev pub inbox_of : Caller → Inbox
inbox_of c = record { node = c.node; room = c.line.room; book = c.reader.seen.known.book }

-- which seat's it is, and the slot of its replies
abbrev pub place_of : Caller → Place
place_of c = c.place

-- the place of a cluster's own caller at the node with this index
abbrev pub own_place : ℕ → Place
own_place index = record { seat = SEAT_NUMBERS + index; slot = MOST_SEATS + index }

-- the nodes of a hub's cluster
abbrev pub nodes_at : Hub → List ℕ
nodes_at h = h.nodes

-- the nodes of its cluster
abbrev pub nodes_of : Caller → List ℕ
nodes_of c = nodes_at c.hub.value

-- what it knows of its node's moments, whether it read them or was told of them, and how much of the node's log it was told of
abbrev pub seen_of : Caller → Seen
seen_of c = c.reader.seen

-- up to which length of the node's log
abbrev pub told_of : Caller → ℕ
told_of c = c.reader.seen.told

-- it knows of more, of the same book
pub record LearnsMore (s t : Seen) : Type 0 where
  pub book : t.known.book ≡ s.known.book
  pub later : IsPrefix s.known.log t.known.log
  pub rises : s.told ≤ t.told

-- or it may have been told of nothing
abbrev pub Learns : Seen → Seen → Type 0
Learns s t = (t ≡ s) ⊎ LearnsMore s t

-- the events that it has put into its node's inbox, the oldest first
abbrev pub asked_by : Caller → List LocalEvent
asked_by c = events_on c.line

-- the ticket of the next event that it asks for
abbrev pub ticket_of : Caller → Ticket
ticket_of c = record { seat = c.place.seat; slot = c.place.slot; number = c.next }

-- the task by which it asks for an event
abbrev pub task_for : Caller → LocalEvent → Item
task_for c e = Task (record { ticket = Some (ticket_of c); event = e })

-- its next event has the next number
abbrev pub Numbers : Caller → Caller → Type 0
Numbers c d = d.next ≡ c.next + 1

-- it has put an item into its node's inbox
abbrev pub Puts : Item → Caller → Caller → Type 0
Puts i c d = d.line ≡ with_parcel i c.line

-- nothing was put, and the next event has the same number
abbrev pub PutsNothing : Caller → Caller → Type 0
PutsNothing c d = (d.line ≡ c.line) × (d.next ≡ c.next)

-- it has put the item there, or has it still
abbrev pub Offers : Item → Option Item → Caller → Caller → Type 0
Offers i None c d = Puts i c d × Numbers c d
Offers i (Some back) c d = (back ≡ i) × PutsNothing c d

-- no reply comes any more for such a reason alone
abbrev pub IsEnd : SeatFault → Type 0
IsEnd NodeLeft = Unit {0}
IsEnd Closed = Unit {0}
IsEnd _ = ⊥

-- What is known of an item that came to this: the node said so itself only of what was put into its inbox, or no reply comes any more
abbrev pub MayPut : SeatFault → Item → Caller → Caller → Type 0
MayPut NoSuchNode i c d = Puts i c d
MayPut (Step fault) i c d = Puts i c d
MayPut NodeLeft i c d = (d.line ≡ c.line) ⊎ Puts i c d
MayPut Closed i c d = (d.line ≡ c.line) ⊎ Puts i c d
MayPut _ i c d = ⊥
