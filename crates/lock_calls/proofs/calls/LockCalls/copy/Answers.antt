use Rattle.lock_calls.proofs.Copied.{copied_filed, copied_view}
use Rattle.lock_calls.proofs.calls.LockCalls.copy.Goals as goal

pub invariant_of-result : goal.invariant_of-result
invariant_of-result c =
    copied_filed _ c.self.inside.node c.copy.ensures c.in_ok-clone.field-0 c.self.inside.calls
    c.in_ok-clone.ensures.cases c.self.invariant

pub returns : goal.returns
returns c =
    copied_view _ c.self.inside.node c.copy.ensures c.in_ok-clone.field-0 c.self.inside.calls
    c.in_ok-clone.ensures.cases c.args.self.now c.self.view_is
