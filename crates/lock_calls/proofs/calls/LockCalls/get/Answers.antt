use Rattle.std.proofs.Common.{Some, ap, sym, ◌∙◌}
use Rattle.std.specs.Option.{option_map}
use Rattle.lock_calls.specs.declared.call.LockCall.{LockCall}
use Rattle.lock_calls.specs.Calls.{as_call}
use Rattle.lock_calls.proofs.Filed.{call_of-other, call_of-own}
use Rattle.lock_calls.proofs.Ordered.{ordered_in}
use Rattle.lock_calls.proofs.calls.LockCalls.get.Goals as goal

pub returns-then-ne-clause-call : goal.returns-then-ne-clause-call
returns-then-ne-clause-call c =
    sym (call_of-other c.self.inside.node c.self.inside.calls.entries c.args.self.now _ c.args.holder.now c.self.view_is
    c.holder.view_is c.self.invariant.of c.if-ne.ensures)

pub returns-clause-call : goal.returns-clause-call
returns-clause-call c =
    ap (λ (d : LockCall). Some (as_call d)) c.call.ensures ∙ ap (option_map as_call) c.in_ok-kept.ensures.value
    ∙ call_of-own c.self.inside.node c.self.inside.calls.entries c.args.self.now _ c.args.holder.now c.self.view_is
    c.holder.view_is c.self.invariant.of c.if-ne.ensures

pub returns-in_err-kept-clause-call : goal.returns-in_err-kept-clause-call
returns-in_err-kept-clause-call c =
    rw c.from_residual.ensures (ap (option_map as_call) c.in_err-kept.ensures.value
    ∙ call_of-own c.self.inside.node c.self.inside.calls.entries c.args.self.now _ c.args.holder.now c.self.view_is
    c.holder.view_is c.self.invariant.of c.if-ne.ensures)

pub returns-in_err-kept-clause-ordered : goal.returns-in_err-kept-clause-ordered
returns-in_err-kept-clause-ordered c =
    ordered_in c.self.inside.node c.self.inside.calls.entries c.args.self.now c.self.view_is c.self.invariant.of
    c.self.invariant.rising

pub returns-then-ne-clause-ordered : goal.returns-then-ne-clause-ordered
returns-then-ne-clause-ordered c =
    ordered_in c.self.inside.node c.self.inside.calls.entries c.args.self.now c.self.view_is c.self.invariant.of
    c.self.invariant.rising

pub returns-clause-ordered : goal.returns-clause-ordered
returns-clause-ordered c =
    ordered_in c.self.inside.node c.self.inside.calls.entries c.args.self.now c.self.view_is c.self.invariant.of
    c.self.invariant.rising
