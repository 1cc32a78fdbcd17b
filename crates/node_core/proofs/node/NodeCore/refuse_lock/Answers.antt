use Rattle.std.proofs.Common.{sym, ◌∙◌}
use Rattle.protocol_model.specs.Node.{LockPhase}
use Rattle.lock_calls.specs.Calls.{as_call}
use Rattle.node_core.proofs.CallEnds.{same_found, whole_stood}
use Rattle.node_core.proofs.CallsOf.{found_once, refuses_spent, refuses_waiting}
use Rattle.node_core.proofs.node.NodeCore.refuse_lock.Goals as goal

pub invariant_of-self : goal.invariant_of-self
invariant_of-self g c =
    whole_stood _ c.args.self.now c.in-Some.call.now c.args.holder.now c.wait.new.self (λ _. LockPhase.Waiting)
    c.self.view_is
    (same_found _ c.args.self.now c.args.holder.now (as_call c.in-Some.call.now) c.self.view_is
    c.in-Some.ensures.call) c.wait.ensures.calls c.self.invariant c.wait.ensures.node tt

pub returns-then-is_spent-clause-turn : goal.returns-then-is_spent-clause-turn
returns-then-is_spent-clause-turn g c = λ d found.
    let was = same_found _ c.args.self.now c.args.holder.now (as_call c.in-Some.call.now) c.self.view_is
    c.in-Some.ensures.call in
    refuses_spent c.args.self.now c.close_of.new.self c.args.turn.now c.close_of.new.turn (as_call c.in-Some.call.now)
    d (found_once c.args.holder.now _ (as_call c.in-Some.call.now) d was found)
    (sym c.is_spent.ensures ∙ c.if-is_spent.true) (c.close_of.ensures.turn d found)

pub returns-clause-turn : goal.returns-clause-turn
returns-clause-turn g c = λ d found.
    let was = same_found _ c.args.self.now c.args.holder.now (as_call c.in-Some.call.now) c.self.view_is
    c.in-Some.ensures.call in
    refuses_waiting _ c.args.self.now c.args.turn.now c.in-Some.call.now c.args.holder.now d c.wait.new.self
    c.self.view_is was (found_once c.args.holder.now _ (as_call c.in-Some.call.now) d was found)
    (sym c.is_spent.ensures ∙ c.if-is_spent.false) c.wait.ensures.calls
