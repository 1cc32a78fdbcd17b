use Rattle.lock_table.proofs.Sharing.{locked-filed}
use Rattle.lock_table.proofs.others.OtherGrants.is_locked.Goals as goal

pub returns : goal.returns
returns c =
    rw (← c.self.view_is)
    (locked-filed c.self.inside.grants.entries c.self.inside.shared.entries c.self.invariant.counted c.args.resource.now
    c.contains_key.result c.contains_key.ensures)
