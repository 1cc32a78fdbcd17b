-- Who has which locks, as a server has seen it.
use Rattle.std.specs.Prelude.{ℕ, Bool, not, nat_lt, ◌==◌, ◌&&◌, ◌||◌, ◌+◌, ◌-◌, List, unwrap_or, if◌then◌else◌}
use Rattle.std.specs.List.{list_any}
use Rattle.std.specs.BTreeMap.{BTreeMap, get, insert_entry, is_at, keys}
use Rattle.std.specs.Map.{remove_entry}
use Rattle.std.specs.Ordering.{nat_cmp, ordering_then}
use Rattle.std.specs.declared.cmp.Ordering.{Ordering}
use Rattle.registry_model.specs.Process.{Process, is_process}
use Rattle.term.specs.NodeSets.{set_of}
use Rattle.term.specs.declared.lock_id.LockId.{LockId}
use Rattle.lock_lines.specs.declared.grants.Grant.{Grant}

-- by node and serial of the process, by resource, by requester, then by node
abbrev pub grant_cmp : Grant → Grant → Ordering
grant_cmp a b =
    ordering_then (ordering_then (nat_cmp a.holder.node b.holder.node) (nat_cmp a.holder.serial b.holder.serial))
    (ordering_then (nat_cmp a.resource b.resource) (ordering_then (nat_cmp a.requester b.requester) (nat_cmp a.node b.node)))

-- how often each grant counts
abbrev pub Times : Type 0
Times = BTreeMap Grant ℕ

-- how often this one does
abbrev pub times_of : Grant → Times → ℕ
times_of g times = unwrap_or (get grant_cmp times g) 0

-- it counts once more
abbrev pub noted : Grant → Times → List (Grant × ℕ)
noted g times = insert_entry grant_cmp times.entries g (times_of g times + 1)

-- it counts once less, if it counts
abbrev pub taken : Grant → Times → List (Grant × ℕ)
taken g times = if nat_lt 1 (times_of g times) then insert_entry grant_cmp times.entries g (times_of g times - 1)
    else remove_entry (is_at (grant_cmp g)) times.entries

-- it is one of this lock, at one of these nodes
abbrev pub is_of : LockId → List ℕ → Grant → Bool
is_of id nodes g = (g.resource == id.resource) && (g.requester == id.requester) && set_of nodes g.node

-- it is one at this node, or a process's of it
abbrev pub is_on : ℕ → Grant → Bool
is_on node g = (g.node == node) || (g.holder.node == node)

-- it is this process's
abbrev pub is_held_by : Process → Grant → Bool
is_held_by holder g = is_process g.holder holder

-- somebody has the lock, at one of these nodes
abbrev pub holds : LockId → List ℕ → Times → Bool
holds id nodes times = list_any (is_of id nodes) (keys times)
