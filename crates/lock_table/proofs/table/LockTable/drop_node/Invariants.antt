use Rattle.std.proofs.Common.{◌≡◌, length}
use Rattle.protocol_model.specs.LockTable.{drop_node}
use Rattle.lock_table.proofs.table.LockTable.drop_node.Given as goal

-- the other nodes' grants are those that they were
abbrev pub invariant-loop-first : goal.invariant-loop-first
invariant-loop-first l = drop_node l.node l.self ≡ drop_node l.node l.initial.self

abbrev pub decreases-loop-first : goal.decreases-loop-first
decreases-loop-first l = length l.self
