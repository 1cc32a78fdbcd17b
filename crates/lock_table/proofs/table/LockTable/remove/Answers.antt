use Rattle.lock_table.proofs.Removal.{removed}
use Rattle.lock_table.proofs.table.LockTable.remove.Goals as goal

pub invariant_of-self : goal.invariant_of-self
invariant_of-self c =
    (removed c.args.key.now c.self.inside.next c.self.inside.grants c.remove.new.self c.self.invariant c.remove.ensures).0

pub returns : goal.returns
returns c =
    rw (← c.self.view_is)
    (removed c.args.key.now c.self.inside.next c.self.inside.grants c.remove.new.self c.self.invariant c.remove.ensures).1
