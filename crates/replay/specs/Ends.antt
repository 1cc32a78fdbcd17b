-- What the threads of nodes left behind.
use Rattle.std.specs.Prelude.{Bool, false, ◌≡◌, nat_lt, List, map}
use Rattle.registry_model.specs.Table.{Table}
use Rattle.protocol_model.specs.World.{World}
use Rattle.node_log.specs.declared.node_end.NodeEnd.{NodeEnd}
use Rattle.node_log.specs.Entries.{Logged}

-- the log of a node, its last table, and whether its thread's last turn failed and the node hadn't left
pub record End : Type 0 where
  pub log : Logged
  pub table : Table
  pub ended_alone : Bool

-- the end, where these say what names a table has and what steps a record has
abbrev pub end_by : {N L M : Type 0} → (N → Table) → (L → Logged) → NodeEnd N L M → End
end_by contents logged e = record { log = logged e.log; table = contents e.table; ended_alone = e.ended_alone }

-- the end of a node that kept a log
abbrev pub end_of : {N M : Type 0} → (N → Table) → NodeEnd N Logged M → End
end_of contents e = end_by contents (λ log. log) e

abbrev pub logs_of : List End → List Logged
logs_of ends = map (λ e. e.log) ends

-- ends are ordered by their nodes
abbrev pub is_lesser : End → End → Bool
is_lesser e f = nat_lt e.log.node f.log.node

-- the thread ended as it should
abbrev pub EndedWell : End → Type 0
EndedWell e = e.ended_alone ≡ false

-- the table is that of the node in this world
abbrev pub HasTableOf : World → End → Type 0
HasTableOf w e = e.table ≡ (w.node e.log.node).replica.table
