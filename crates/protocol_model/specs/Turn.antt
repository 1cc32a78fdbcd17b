-- A turn: what one step of a node has made so far. The rules of a step are functions from turns to turns.
use Rattle.std.specs.Prelude.{ℕ, ◌==◌, ◌+◌, map, filter, List, [], ◌∷◌, ◌++◌}
use Rattle.registry_model.specs.Process.{Nodes, nodes_of}
use Rattle.registry_model.specs.Call.{Reply}
use Rattle.registry_model.specs.Registry.{Replica}
use Rattle.registry_model.specs.History.{Entry}
use Rattle.protocol_model.specs.Letter.{Letter}
use Rattle.protocol_model.specs.LockTable.{Locks}
use Rattle.protocol_model.specs.Watch.{Watch}
use Rattle.protocol_model.specs.Node.{Node, Op, Current, LockCall, put_call, drop_call}
use Rattle.protocol_model.specs.Event.{Answer}

-- a letter and its receiver
pub record Send : Type 0 where
  pub to : ℕ
  pub letter : Letter

-- the node as it is now, and what it sends, enters into the history and answers, in order
pub record Turn : Type 0 where
  pub node : Node
  pub sends : List Send
  pub entries : List Entry
  pub answers : List Answer

-- nothing is made yet
abbrev pub begun : Node → Turn
begun v = record { node = v; sends = []; entries = []; answers = [] }

-- the node becomes v
abbrev pub become : Node → Turn → Turn
become v u = record u { node = v }

-- the replica is changed
abbrev pub with_replica : (Replica → Replica) → Turn → Turn
with_replica f u = become (record u.node { replica = f u.node.replica }) u

-- the lock table is changed
abbrev pub with_locks : (Locks → Locks) → Turn → Turn
with_locks f u = become (record u.node { locks = f u.node.locks }) u

-- the watch is changed
abbrev pub with_watch : (Watch → Watch) → Turn → Turn
with_watch f u = become (record u.node { watch = f u.node.watch }) u

-- the lock calls are changed
abbrev pub with_calls : (List LockCall → List LockCall) → Turn → Turn
with_calls f u = become (record u.node { calls = f u.node.calls }) u

-- the queue is this
abbrev pub with_queue : List Op → Turn → Turn
with_queue ops u = become (record u.node { queue = ops }) u

-- the registrar is at this
abbrev pub at_work : Current → Turn → Turn
at_work c u = become (record u.node { current = c }) u

-- one numbered call more
abbrev pub count_call : Turn → Turn
count_call u = become (record u.node { last_call = u.node.last_call + 1 }) u

-- the lock call stands so now
abbrev pub keep_call : LockCall → Turn → Turn
keep_call c u = with_calls (put_call c) u

-- the lock call has ended
abbrev pub end_call : LockCall → Turn → Turn
end_call c u = with_calls (drop_call c.holder) u

-- a letter to c
abbrev pub send : ℕ → Letter → Turn → Turn
send c l u = record u { sends = u.sends ++ record { to = c; letter = l } ∷ [] }

-- a letter to each node of a set below n, in rising order
abbrev pub send_all : ℕ → Nodes → Letter → Turn → Turn
send_all n s l u = record u { sends = u.sends ++ map (λ c. record { to = c; letter = l }) (nodes_of n s) }

-- an entry of the history
abbrev pub enter : Entry → Turn → Turn
enter e u = record u { entries = u.entries ++ e ∷ [] }

-- node a answers its call k
abbrev pub reply_with : ℕ → ℕ → Reply → Turn → Turn
reply_with a k r u = record u { answers = u.answers ++ record { node = a; number = k; reply = r } ∷ [] }

-- the letters of a turn to c, in their order
abbrev pub sent_to : ℕ → List Send → List Letter
sent_to c ss = map (λ s. s.letter) (filter (λ s. s.to == c) ss)
