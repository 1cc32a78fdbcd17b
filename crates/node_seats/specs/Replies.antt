-- Who told a caller what.
use Rattle.std.specs.Prelude.{ℕ, Bool, true, nat_lt, ◌≡◌, ◌==◌, ◌||◌, ◌&&◌, ◌≤◌, ◌<◌, if◌then◌else◌, Option, Some, None, Result, Err, List, [], ◌∷◌, length, All, Contains}
use Rattle.shared_table.specs.declared.Ticket.{Ticket}
use Rattle.shared_table.specs.declared.Effect.{Effect}
use Rattle.shared_table.specs.declared.TaskFault.{TaskFault}
use Rattle.shared_table.specs.declared.TaskFault.TheVariants as of_task
use Rattle.shared_table.specs.declared.TaskReply.{TaskReply}
use Rattle.shared_table.specs.declared.Moment.{Moment}
use Rattle.shared_table.specs.Told.{Told, told_by}
use Rattle.shared_table.specs.Held.{Looping}
use Rattle.shared_table.specs.Coming.{IsLoopOf}
use Rattle.shared_table.specs.Left.{logs_leave}
use Rattle.shared_table.specs.Moments.{last_from, shown_at}
use Rattle.shared_table.specs.Rule.{Token}
use Rattle.shared_table.specs.Readers.{Seen}
use Rattle.node_seats.specs.declared.fault.SeatFault.{SeatFault}
use Rattle.node_seats.specs.declared.fault.SeatFault.TheVariants.{SeatsSpent, Step, Memory}

-- one ticket comes before another: it is of an earlier seat, or of the same and for an earlier call
abbrev pub comes_before : Ticket → Ticket → Bool
comes_before one other = nat_lt one.seat other.seat || (one.seat == other.seat && nat_lt one.number other.number)

-- the replies that the loop holds at the last of these moments
abbrev pub replies_at : List Moment → List Told
replies_at [] = []
replies_at (m ∷ ms) = (last_from m ms).node.desk.replies

-- these are among them
abbrev pub AreHeld : List Moment → List Told → Type 0
AreHeld ms replies = All (Contains (replies_at ms)) replies

-- this one is: these moments are so many, and the last of them shows a log of this length
pub record IsHeld (reply : TaskReply) (ms : List Moment) (count long : ℕ) : Type 0 where
  pub held : Contains (replies_at ms) (told_by reply)
  pub count_is : count ≡ length ms
  pub some : 0 < count
  pub long_is : long ≡ (shown_at ms).length

-- what lies in a slot: what was told to whom, if anything was, and up to which moment of the node
pub record Lying : Type 0 where
  pub ticket : Ticket
  pub outcome : Option (Result Effect TaskFault)
  pub seen : Token
  pub count : ℕ
  pub long : ℕ

-- if anything was told, the loop holds it at the last of these moments
abbrev pub IsLaid : Ticket → Option (Result Effect TaskFault) → List Moment → ℕ → ℕ → Type 0
IsLaid ticket None ms count long = Unit {0}
IsLaid ticket (Some outcome) ms count long = IsHeld (record { ticket = ticket; outcome = outcome }) ms count long

-- a reply is to an earlier ticket than the one that lies in their slot
abbrev pub is_late : Lying → Lying → Bool
is_late reply lying = comes_before reply.ticket lying.ticket

-- the later one of both, if one lay there
abbrev pub later_of : Lying → Option Lying → Lying
later_of reply None = reply
later_of reply (Some lying) = if is_late reply lying then lying else reply

-- At one of the moments that are known the loop of this node held this reply. What it shows its readers it had changed behind no step beyond the
-- length of its log that is known
pub record Tells (name : ℕ) (told : Told) (s : Seen) : Type 0 where
  pub moment : Moment
  pub among : Contains s.known.log moment
  pub came : IsLoopOf name moment.node
  pub held : Contains moment.node.desk.replies told
  pub within : moment.node.owed.length ≤ s.told

-- the loop of this node came to where it shows what it last changed behind that length of its log
pub record ShowsAt (name n : ℕ) : Type 0 where
  pub node : Looping
  pub came : IsLoopOf name node
  pub long : node.owed.length ≡ n

-- the node of this name has shown an edition of a log of this length
abbrev pub HasShown : ℕ → ℕ → Type 0
HasShown name n = ∥ ShowsAt name n ∥₁

-- it told the owner of this ticket so, at a moment that is known
abbrev pub IsToldTo : ℕ → Ticket → Result Effect TaskFault → Seen → Type 0
IsToldTo name ticket outcome s = Tells name (told_by (record { ticket = ticket; outcome = outcome })) s

-- and it told each refusal by the node. What is asked comes to no want of memory, and of seats
abbrev pub IsFaultTold : ℕ → Ticket → SeatFault → Seen → Type 0
IsFaultTold name ticket (Step fault) s = IsToldTo name ticket (Err (of_task.Step fault)) s
IsFaultTold name ticket SeatsSpent s = ⊥
IsFaultTold name ticket Memory s = ⊥
IsFaultTold name ticket _ s = Unit {0}

-- a loop of this node came to where its log has that the node left
pub record LogsLeave (name : ℕ) : Type 0 where
  pub node : Looping
  pub came : IsLoopOf name node
  pub logged : logs_leave node.log ≡ true

-- a loop of this node has logged its leave
abbrev pub HasLeft : ℕ → Type 0
HasLeft name = ∥ LogsLeave name ∥₁
