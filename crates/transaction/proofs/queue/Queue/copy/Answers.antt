use Rattle.std.proofs.Common.{sym, ap, ◌∙◌, map}
use Rattle.transaction.proofs.Copied.{copied_same, copied_join}
use Rattle.transaction.proofs.queue.Queue.copy.Goals as goal

pub invariant_of-result : goal.invariant_of-result
invariant_of-result c =
    c.self.invariant
    ∙ sym (copied_join c.self.inside.ops.items c.in_ok-clone.field-0.items c.in_ok-clone.ensures.cases.0)

pub returns : goal.returns
returns c =
    copied_same c.self.inside.ops.items c.in_ok-clone.field-0.items c.in_ok-clone.ensures.cases.0
    ∙ ap (map _) c.self.view_is
