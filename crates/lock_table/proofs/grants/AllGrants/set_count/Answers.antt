use Rattle.lock_table.proofs.Beside.{none_recounted}
use Rattle.lock_table.proofs.grants.AllGrants.set_count.Goals as goal

pub invariant_of-self : goal.invariant_of-self
invariant_of-self c =
    λ apart. none_recounted c.self.inside.global c.args.key.now c.args.count c.self.inside.others c.set_count.new.self
    c.set_count.ensures (c.self.invariant apart)
