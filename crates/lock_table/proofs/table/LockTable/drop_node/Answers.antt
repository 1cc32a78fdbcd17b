use Rattle.std.proofs.Common.{◌<◌, length, ap, sym, subst, ◌∙◌, ◌==◌}
use Rattle.protocol_model.specs.LockTable.{Grant, Locks, drop_node}
use Rattle.lock_table.proofs.Dropping.{all_kept, drop_first_on, shorter}
use Rattle.lock_table.proofs.table.LockTable.drop_node.Goals as goal

pub loop-first-preserved : goal.loop-first-preserved
loop-first-preserved c =
    ap (λ (t : Locks). drop_node c.args.node.now t) c.remove.ensures
    ∙ drop_first_on c.args.node.now c.in-Some.first c.in-Some.ensures.some.1 c.loop-first.self
    ∙ c.loop-first.invariant

pub loop-first-smaller : goal.loop-first-smaller
loop-first-smaller c =
    subst (λ (t : Locks). length t < length c.loop-first.self) (sym c.remove.ensures)
    (shorter c.in-Some.first c.loop-first.self c.in-Some.ensures.some.0)

pub returns : goal.returns
returns c =
    sym (all_kept (λ (g : Grant). g.holder.node == c.args.node.now) c.loop-first.self c.in_default.ensures.none)
    ∙ c.loop-first.invariant
