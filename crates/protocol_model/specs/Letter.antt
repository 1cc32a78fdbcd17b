-- Letters: what one node sends to another, or to itself.
use Rattle.std.specs.Prelude.{ℕ, Bool, true, false, ◌&&◌, ◌==◌}
use Rattle.registry_model.specs.Process.{Text, Process, Nodes}
use Rattle.registry_model.specs.Table.{Table, Change}
use Rattle.registry_model.specs.Settlement.{Fate, Settled}

-- a lock's id, a resource and a requester: the resource `global` under a node, or another's
pub data Id : Type 0 where
  Global : (requester : ℕ) → Id
  Client : (resource : Text) → (requester : Text) → Id

-- whether two ids are one
abbrev pub is_id : Id → Id → Bool
is_id (Global a) (Global b) = a == b
is_id (Client r q) (Client s z) = (r == s) && (q == z)
is_id _ _ = false

-- whether two ids are of one resource
abbrev pub is_resource : Id → Id → Bool
is_resource (Global a) (Global b) = true
is_resource (Client r q) (Client s z) = r == s
is_resource _ _ = false

pub data Letter : Type 0 where
  SetLock : (id : Id) → (holder : Process) → Letter  -- asks for one grant
  LockAnswer : (id : Id) → (holder : Process) → (granted : Bool) → Letter  -- the answer to it
  GiveBack : (id : Id) → (holder : Process) → (ack : Bool) → Letter  -- takes one count away; answered where `ack`
  GivenBack : (holder : Process) → Letter  -- the answer to it
  ReleaseOf : (holder : Process) → Letter  -- takes all grants of the holder away
  Apply : (change : Change) → Letter  -- write this
  Applied : Letter  -- a write, an admission or a welcome was carried out
  JoinAsk : (pairs : Table) → Letter  -- a lone node asks to join, with its whole table
  JoinRefused : Letter  -- the node that was asked isn't joined itself
  Admit : (joiner : ℕ) → (settled : Settled) → Letter  -- to each member
  Welcome : (members : Nodes) → (pairs : Table) → (told : Nodes) → (fate : Fate) → Letter  -- to the joiner
  Down : Letter  -- the sender has left

-- the letter says that its sender has left
abbrev pub is_down : Letter → Bool
is_down Down = true
is_down _ = false
