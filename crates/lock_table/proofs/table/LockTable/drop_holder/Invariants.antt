use Rattle.std.proofs.Common.{◌≡◌, length}
use Rattle.protocol_model.specs.LockTable.{drop_holder}
use Rattle.lock_table.proofs.table.LockTable.drop_holder.Given as goal

-- the other holders' grants are those that they were
abbrev pub invariant-loop-first : goal.invariant-loop-first
invariant-loop-first l = drop_holder l.holder l.self ≡ drop_holder l.holder l.initial.self

abbrev pub decreases-loop-first : goal.decreases-loop-first
decreases-loop-first l = length l.self
