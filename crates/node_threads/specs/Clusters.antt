-- What contracts see of a cluster.
use Rattle.std.specs.Prelude.{ℕ, Bool, true, false, ◌≡◌, Some, Ok, List, ◌++◌, map}
use Rattle.node_loop.specs.declared.LocalEvent.TheVariants.{Leave}
use Rattle.node_loop.specs.declared.replies.Effect.TheVariants.{Left}
use Rattle.node_seats.specs.declared.caller.Caller.{Caller}
use Rattle.node_seats.specs.declared.fault.SeatFault.{SeatFault}
use Rattle.node_seats.specs.declared.fault.SeatFault.TheVariants.{NoSuchNode}
use Rattle.node_seats.specs.Addresses.{Inbox}
use Rattle.node_seats.specs.Callers.{inbox_of, ticket_of, seen_of, task_for, Puts, IsEnd}
use Rattle.node_seats.specs.Replies.{IsToldTo, HasLeft}
use Rattle.node_seats.specs.Seats.{Sitting, new_seat}
use Rattle.node_threads.specs.Wires.{Wired, inboxes, inbox_to}
use Rattle.node_threads.specs.declared.seating.Seating.{Seating}
use Rattle.node_threads.specs.Seating.{next_place, with_seat, without_slot}

pub record Crewed : Type 0 where
  pub cluster : List ℕ  -- the nodes that are joined at first
  pub lone : List ℕ  -- the others
  pub world : List ℕ  -- all of them, rising
  pub crew : List Wired  -- the same, as their threads started
  pub seating : Seating  -- which slots have a seat, and how many were made

-- all its nodes
abbrev pub nodes_in : Crewed → List ℕ
nodes_in c = c.cluster ++ c.lone

-- the seats that its next one may become, one at each node
abbrev pub next_seats : Crewed → List Sitting
next_seats c = map (new_seat (next_place c.seating) c.world) (inboxes c.crew)

-- it is made
abbrev pub seats_more : Crewed → Crewed
seats_more c = record c { seating = with_seat c.seating }

-- a seat with this slot was given back
abbrev pub seats_fewer : ℕ → Crewed → Crewed
seats_fewer slot c = record c { seating = without_slot slot c.seating }

-- why a cluster doesn't tell how a node stands: whether it has the node; and if so, that nobody can tell any more
abbrev pub IsUntold : SeatFault → Bool → Type 0
IsUntold NoSuchNode known = known ≡ false
IsUntold fault known = (known ≡ true) × IsEnd fault

-- A leave was put into this inbox. The loop of its node told the caller that put it there that the node has left, at a moment of the node's own
-- book that the caller then knows, and its log has the leave
pub record LeftAsAsked (inbox : Inbox) : Type 0 where
  pub caller : Caller
  pub behind : Caller
  pub of : inbox_of caller ≡ inbox
  pub still : inbox_of behind ≡ inbox
  pub put : Puts (task_for caller Leave) caller behind
  pub told : IsToldTo inbox.node (ticket_of caller) (Ok Left) (seen_of behind)
  pub left : HasLeft inbox.node

-- so at this node of the cluster
pub record LeftAt (c : Crewed) (node : ℕ) : Type 0 where
  pub inbox : Inbox
  pub at : inbox_to node c.crew ≡ Some inbox
  pub left : LeftAsAsked inbox
