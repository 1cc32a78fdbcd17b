use Rattle.std.proofs.Common.{◌∙◌, sym}
use Rattle.lock_table.specs.Grants.{IsNoneOn, IsSomeOn}
use Rattle.lock_table.proofs.Beside.{loses_kept, loses_others, none_lost}
use Rattle.lock_table.proofs.Facts.{where_false}
use Rattle.lock_table.proofs.grants.AllGrants.remove.Goals as goal
use Rattle.lock_table.proofs.grants.AllGrants.remove.Goals.{then-self, else-self}

pub returns-then-is_kept : goal.returns-then-is_kept
returns-then-is_kept c =
    rw (← c.self.view_is)
    (loses_kept c.self.inside.kept c.self.inside.others c.args.key.now (sym c.is_kept.ensures ∙ c.if-is_kept.true))

pub returns-after-self : goal.returns-after-self
returns-after-self c =
    rw (← c.self.view_is)
    (loses_others c.self.inside.kept c.self.inside.others c.args.key.now c.remove.new.self
    (sym c.is_kept.ensures ∙ c.if-is_kept.false) c.remove.ensures)

-- none was on `global`, or none is any more
pub invariant_of-self-else-is_kept : goal.invariant_of-self-else-is_kept
invariant_of-self-else-is_kept c = λ apart. elim c.if-self.branch [
  | then-self w ↦
      none_lost c.self.inside.global c.args.key.now c.self.inside.others c.remove.new.self c.remove.ensures
      (c.self.invariant w.if-self.true)
  | else-self w ↦
      where_false (IsSomeOn c.self.inside.global c.remove.new.self) (IsNoneOn c.self.inside.global c.remove.new.self) _ _
      w.self-is apart w.is_locked.ensures
]
