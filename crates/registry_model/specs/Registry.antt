-- The registry: one table for the cluster, and one for each lone node. It knows no letters and no locks.
use Rattle.std.specs.Prelude.{ℕ, Bool, false, not, ◌&&◌, ◌||◌, ◌==◌, List, [], ◌++◌, if◌then◌else◌}
use Rattle.std.specs.List.{list_any}
use Rattle.registry_model.specs.Process.{Process, is_process, Nodes, nobody, at, with_node}
use Rattle.registry_model.specs.Table.{Table, without}
use Rattle.registry_model.specs.Settlement.{Notice, notices_to, Settled, with_settled}

-- the state of the registry
pub record Registry : Type 0 where
  pub table : Table  -- the cluster's
  pub joined : Nodes
  pub lone : ℕ → Table  -- of each node that isn't joined
  pub left : Nodes
  pub told : ℕ → Nodes  -- told n d: n was told that d left
  pub dead : Process → Bool
  pub notices : Process → List Notice  -- what each was sent, dead or not

-- the nodes of the cluster are joined, and all else is empty
abbrev pub opening : Nodes → Registry
opening cluster = record {
  table = [];
  joined = cluster;
  lone = λ n. [];
  left = nobody;
  told = λ n. nobody;
  dead = λ p. false;
  notices = λ p. [];
}

-- the group of n: all joined nodes where n is joined, else n alone
abbrev pub in_group : Registry → ℕ → Nodes
in_group r n c = if r.joined n then r.joined c else c == n

-- the table of n's group
abbrev pub table_of : Registry → ℕ → Table
table_of r n = if r.joined n then r.table else r.lone n

-- n's group has another table
abbrev pub with_table : ℕ → (Table → Table) → Registry → Registry
with_table n f r = if r.joined n then record r { table = f r.table } else record r { lone = at r.lone n (f (r.lone n)) }

-- what n has to show: its group's table, less the names on nodes that it was told have left
abbrev pub view : Registry → ℕ → Table
view r n = without (r.told n) (table_of r n)

-- the nodes of n's group, less those that n was told have left
abbrev pub members : Registry → ℕ → Nodes
members r n c = in_group r n c && not (r.told n c)

-- the process of node n with this serial
abbrev pub process_of : ℕ → ℕ → Process
process_of n serial = record { node = n; serial = serial }

-- what a node keeps and shows of the registry
pub record Replica : Type 0 where
  pub table : Table
  pub members : Nodes
  pub told : Nodes
  pub joined : Bool
  pub notices : ℕ → List Notice  -- what its own processes were sent, by serial

-- what n has to keep and show
abbrev pub replica_of : Registry → ℕ → Replica
replica_of r n = record {
  table = view r n;
  members = members r n;
  told = r.told n;
  joined = r.joined n;
  notices = λ serial. r.notices (process_of n serial);
}

-- j joins by its contact m: the settlement is carried out, and j is told of all that m was told
abbrev pub with_joiner : ℕ → ℕ → Settled → Registry → Registry
with_joiner j m s r = record {
  table = with_settled s r.table;
  joined = with_node j r.joined;
  lone = at r.lone j [];
  left = r.left;
  told = at r.told j (λ d. r.told j d || r.told m d);
  dead = λ p. r.dead p || list_any (is_process p) s.fate.kills;
  notices = λ p. r.notices p ++ notices_to p s.fate.notices;
}
