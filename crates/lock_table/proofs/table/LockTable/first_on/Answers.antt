use Rattle.std.proofs.Common.{◌==◌, ◌≡◌, false}
use Rattle.std.proofs.lemmas.Option.{IfSome_then}
use Rattle.protocol_model.specs.LockTable.{Grant}
use Rattle.lock_table.proofs.Facts.{on_none}
use Rattle.lock_table.proofs.Listed.{All-listed}
use Rattle.lock_table.proofs.Removal.{listed_under}
use Rattle.lock_table.proofs.table.LockTable.first_on.Goals as goal

pub returns-clause-some : goal.returns-clause-some
returns-clause-some c =
    rw (← c.self.view_is)
    (IfSome_then c.first_on.result c.first_on.ensures.some
    (λ k h. (listed_under c.self.inside.next c.self.inside.grants c.self.invariant.below k h.0, h.1)))

pub returns-clause-none : goal.returns-clause-none
returns-clause-none c =
    rw (← c.self.view_is)
    (on_none c.first_on.result c.first_on.ensures.none
    (All-listed (λ (g : Grant). (g.holder.node == c.args.node.now) ≡ false) c.self.inside.next c.self.inside.grants))
