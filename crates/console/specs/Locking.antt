-- What lock calls ask for, and which of them wait in a line.
use Rattle.std.specs.Prelude.{ℕ, Bool, true, false, ◌≡◌, ◌&&◌, ◌==◌, List, Option, Some, None, Result, Ok}
use Rattle.std.specs.List.{list_any, list_all}
use Rattle.registry_model.specs.Process.{Process}
use Rattle.term.specs.Nodes.{name_of}
use Rattle.term.specs.NodeSets.{set_of}
use Rattle.term.specs.declared.lock_id.LockId.{LockId}
use Rattle.command_lines.specs.declared.Call.{Call}
use Rattle.command_lines.specs.declared.Call.TheVariants.{SetLock, DelLock}
use Rattle.command_lines.specs.declared.Reply.{Reply}
use Rattle.command_lines.specs.declared.Reply.TheVariants.{True}
use Rattle.node_seats.specs.declared.Nodes.{Nodes}
use Rattle.node_seats.specs.declared.Nodes.TheVariants.{All, Named}
use Rattle.node_seats.specs.declared.Retries.TheVariants.{Endless}
use Rattle.node_seats.specs.declared.fault.SeatFault.{SeatFault}
use Rattle.lock_lines.specs.declared.request.Request.{Request}

-- it asks this node, where these are the members
abbrev pub asks : Nodes → List ℕ → ℕ → Bool
asks All members node = set_of members node
asks (Named names) members node = set_of members node && set_of names (name_of node)

-- it names members alone
abbrev pub are_members : Nodes → List ℕ → Bool
are_members All members = true
are_members (Named names) members = list_all (λ name. list_any (λ m. name_of m == name) members) names

-- it asks for a lock
abbrev pub sets_lock : Call → Bool
sets_lock (SetLock holder id nodes retries) = true
sets_lock _ = false

-- it is asked for this lock, of these nodes
pub record Wants (holder : Process) (id : LockId) (nodes : Nodes) (members : List ℕ) (r : Request) : Type 0 where
  pub holder_is : r.holder ≡ holder
  pub id_is : r.id ≡ id
  pub nodes_are : (node : ℕ) → set_of r.nodes node ≡ asks nodes members node

-- what a call asks for that is one for a lock, or gives one back
abbrev pub IsRequestOf : Call → List ℕ → Option Request → Type 0
IsRequestOf (SetLock holder id nodes retries) members (Some r) = Wants holder id nodes members r
IsRequestOf (SetLock holder id nodes retries) members None = ⊥
IsRequestOf (DelLock holder id nodes) members (Some r) = Wants holder id nodes members r
IsRequestOf (DelLock holder id nodes) members None = ⊥
IsRequestOf _ members r = r ≡ None

-- it waits for its turn: it is retried without end
abbrev pub waits_in_line : Call → List ℕ → Bool
waits_in_line (SetLock holder id nodes Endless) members = are_members nodes members
waits_in_line _ members = false

-- it was granted
abbrev pub is_granted : Result Reply SeatFault → Bool
is_granted (Ok True) = true
is_granted _ = false
