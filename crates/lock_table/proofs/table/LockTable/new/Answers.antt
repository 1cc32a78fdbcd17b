use Rattle.std.proofs.Common.{sym, subst}
use Rattle.lock_table.specs.Filed.{IsFiled}
use Rattle.lock_table.proofs.Filing.{filed-none}
use Rattle.lock_table.proofs.table.LockTable.new.Goals as goal

pub invariant_of-result : goal.invariant_of-result
invariant_of-result c = subst (IsFiled 0) (sym c.new.ensures) filed-none
