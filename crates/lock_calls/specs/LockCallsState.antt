-- The calls of one node, and how they are filed.
use Rattle.std.specs.Prelude.{◌≡◌, ◌<◌, ℕ, List, [], map, All, AllPairs}
use Rattle.std.specs.BTreeMap.{BTreeMap, IsOrdered}
use Rattle.std.specs.Ordering.{nat_cmp}
use Rattle.protocol_model.specs.Node.{LockCall as AnyCall}
use Rattle.lock_calls.specs.declared.call.LockCall.{LockCall}
use Rattle.lock_calls.specs.Calls.{as_call}

-- the calls of the processes of a node, rising by serial
pub record LockCallsState : Type 0 where
  pub node : ℕ
  pub calls : List LockCall

-- the calls as the protocol has them
abbrev pub seen : LockCallsState → List AnyCall
seen h = map as_call h.calls

-- no call of node a
abbrev pub none_at : ℕ → LockCallsState
none_at a = record { node = a; calls = [] }

-- the call is of the process of node a that has this serial
abbrev pub IsOf : ℕ → ℕ × LockCall → Type 0
IsOf a e = (e.1.holder ≡ record { node = a; serial = e.0 }) × (0 < e.0)

-- the calls of node a stand under the serials of their processes, rising
pub record IsFiled (a : ℕ) (calls : BTreeMap ℕ LockCall) : Type 0 where
  pub of : All (IsOf a) calls.entries
  pub rising : IsOrdered nat_cmp calls

-- the calls are of processes of node a, which rise by serial
pub record AreOrdered (a : ℕ) (cs : List AnyCall) : Type 0 where
  pub own : All (λ c. c.holder.node ≡ a) cs
  pub live : All (λ c. 0 < c.holder.serial) cs
  pub rising : AllPairs (λ c d. c.holder.serial < d.holder.serial) cs
