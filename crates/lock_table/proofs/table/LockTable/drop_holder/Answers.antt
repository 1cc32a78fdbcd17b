use Rattle.std.proofs.Common.{◌<◌, length, ap, sym, subst, ◌∙◌}
use Rattle.registry_model.specs.Process.{is_process}
use Rattle.protocol_model.specs.LockTable.{Grant, Locks, drop_holder}
use Rattle.lock_table.proofs.Dropping.{all_kept, drop_first, shorter}
use Rattle.lock_table.proofs.table.LockTable.drop_holder.Goals as goal

pub loop-first-preserved : goal.loop-first-preserved
loop-first-preserved c =
    ap (λ (t : Locks). drop_holder c.args.holder.now t) c.remove.ensures
    ∙ drop_first c.args.holder.now c.in-Some.first c.in-Some.ensures.some.1 c.loop-first.self
    ∙ c.loop-first.invariant

pub loop-first-smaller : goal.loop-first-smaller
loop-first-smaller c =
    subst (λ (t : Locks). length t < length c.loop-first.self) (sym c.remove.ensures)
    (shorter c.in-Some.first c.loop-first.self c.in-Some.ensures.some.0)

pub returns : goal.returns
returns c =
    sym (all_kept (λ (g : Grant). is_process g.holder c.args.holder.now) c.loop-first.self c.in_default.ensures.none)
    ∙ c.loop-first.invariant
