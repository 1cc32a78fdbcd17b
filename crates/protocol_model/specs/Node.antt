-- The state of one node.
use Rattle.std.specs.Prelude.{ℕ, Bool, true, false, not, ◌&&◌, ◌==◌, nat_lt, Option, find, filter, List, [], ◌∷◌, if◌then◌else◌}
use Rattle.std.specs.List.{list_any}
use Rattle.registry_model.specs.Process.{Process, is_process, Nodes}
use Rattle.registry_model.specs.Table.{Table, Change, Put, Remove, changed}
use Rattle.registry_model.specs.Call.{NameCall, Reply}
use Rattle.registry_model.specs.Registry.{Replica, opening, replica_of}
use Rattle.protocol_model.specs.Round.{Round}
use Rattle.protocol_model.specs.Letter.{Id}
use Rattle.protocol_model.specs.LockTable.{Locks}
use Rattle.protocol_model.specs.Watch.{Watch, nobody_yet}

-- an operation of the registrar; number: that of the call
pub data Op : Type 0 where
  Name : (number : ℕ) → (call : NameCall) → Op
  Strike : (process : Process) → Op
  Join : (number : ℕ) → (contact : ℕ) → Op
  Admission : (joiner : ℕ) → (pairs : Table) → Op

-- what the registrar is at
pub data Current : Type 0 where
  Free : Current
  Asking : (op : Op) → (round : Round) → Current
  Waiting : (op : Op) → Current  -- refused, until a retry
  Writing : (op : Op) → (asked : Nodes) → (awaited : Nodes) → (reply : Option Reply) → Current  -- holds the global lock
  Joining : (number : ℕ) → (contact : ℕ) → Current

-- whom a lock call asks: all members, or those with one of these names; a name stands for the nodes that have it, since a node
-- that left may come back under its name as another node
pub data Target : Type 0 where
  All : Target
  Named : (names : List (List ℕ)) → Target

-- how often a refused lock call may begin anew
pub data Retries : Type 0 where
  Times : (left : ℕ) → Retries
  Endless : Retries

-- where a lock call stands
pub data LockPhase : Type 0 where
  Asking : (round : Round) → LockPhase
  Waiting : LockPhase  -- refused, until a retry
  Deleting : (owing : Nodes) → LockPhase  -- these owe `GivenBack`

-- an unanswered lock call of a process
pub record LockCall : Type 0 where
  pub holder : Process
  pub number : ℕ
  pub id : Id
  pub target : Target
  pub retries : Retries
  pub phase : LockPhase

pub record Node : Type 0 where
  pub replica : Replica
  pub locks : Locks
  pub watch : Watch
  pub queue : List Op
  pub current : Current
  pub calls : List LockCall  -- rising by serial, at most one of each process
  pub last_call : ℕ  -- the number of the last call

-- a node of the cluster has all its nodes as members, a lone node itself
abbrev pub opening_node : Nodes → ℕ → Node
opening_node cluster a = record {
  replica = replica_of (opening cluster) a;
  locks = [];
  watch = nobody_yet;
  queue = [];
  current = Free;
  calls = [];
  last_call = 0;
}

-- the registrar waits for `Applied`
abbrev pub is_writing : Current → Bool
is_writing (Writing op asked awaited reply) = true
is_writing _ = false

-- the node holds the global lock
abbrev pub holds_global : Node → Bool
holds_global v = is_writing v.current

-- the nodes that a call asks, as the members are now
abbrev pub targets : Nodes → Target → Nodes
targets members All = members
targets members (Named names) = λ c. members c && list_any (λ nodes. list_any (λ m. m == c) nodes) names

-- the call of a process
abbrev pub call_of : Process → List LockCall → Option LockCall
call_of p = find (λ c. is_process c.holder p)

-- the process has no call
abbrev pub drop_call : Process → List LockCall → List LockCall
drop_call p = filter (λ c. not (is_process c.holder p))

-- the call stands in its place by serial
abbrev pub put_call : LockCall → List LockCall → List LockCall
put_call c [] = c ∷ []
put_call c (d ∷ cs) =
    if nat_lt c.holder.serial d.holder.serial
    then c ∷ d ∷ cs
    else (if c.holder.serial == d.holder.serial then c ∷ cs else d ∷ put_call c cs)

-- a put whose owner's node is told to have left removes the name instead; all else is written as it stands
abbrev pub unless_told : Nodes → Change → Change
unless_told told (Put pair) = if told pair.owner.node then Remove pair.name else Put pair
unless_told told c = c

-- the rule Write
abbrev pub wrote : Change → Replica → Replica
wrote change v = record v { table = changed (unless_told v.told change) v.table }
