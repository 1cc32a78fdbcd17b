-- Where the owner of a leave is told that the node has left, the node's log has its leave.
use Rattle.std.specs.Prelude.{ℕ, Bool, true, false, ◌≡◌, ◌==◌, ◌&&◌, Contains, Ok}
use Rattle.std.specs.List.{list_any}
use Rattle.node_log.specs.declared.WorldEvent.{WorldEvent}
use Rattle.node_log.specs.declared.WorldEvent.TheVariants.{At, Deliver, Restart}
use Rattle.node_log.specs.Events.{is_leave}
use Rattle.node_core.specs.CoreState.{CoreState}
use Rattle.node_loop.specs.declared.item.Ticket.{Ticket}
use Rattle.node_loop.specs.Told.{Told, Left}
use Rattle.node_loop.specs.Held.{Looping, Written}
use Rattle.node_loop.specs.Coming.{IsLoopOf, IsLoopFrom}

-- this node leaves
abbrev pub is_leave_of : ℕ → WorldEvent → Bool
is_leave_of node (At n e) = (n == node) && is_leave e
is_leave_of node (Deliver f t) = false
is_leave_of node (Restart x) = false

-- some step of the log is the leave of its node
abbrev pub logs_leave : Written → Bool
logs_leave log = list_any (λ e. is_leave_of log.node e.event) log.entries

-- the owner of a leave, by its ticket, is told that the node has left
abbrev pub told_left : Ticket → Told
told_left t = record { ticket = t; outcome = Ok Left }

-- where the loop of a node holds such a reply, its log has the leave
abbrev pub LeavesAreLogged : Type 0
LeavesAreLogged = (name : ℕ) (b : Looping) → IsLoopOf name b → (t : Ticket) → Contains b.desk.replies (told_left t)
    → logs_leave b.log ≡ true

-- and where nodes come back, whatever a node began with
abbrev pub LeavesAreLoggedFrom : Type 0
LeavesAreLoggedFrom = (start : ℕ) (core : CoreState) (b : Looping) → IsLoopFrom start core b → (t : Ticket) → Contains b.desk.replies (told_left t)
    → logs_leave b.log ≡ true
