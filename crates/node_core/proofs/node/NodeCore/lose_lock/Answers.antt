use Rattle.std.proofs.Common.{Some}
use Rattle.lock_calls.specs.Calls.{as_call}
use Rattle.lock_calls.specs.Standing.{lost}
use Rattle.node_core.proofs.Locking.{found_within}
use Rattle.node_core.proofs.CallEnds.{same_found, found_is, whole_stood, lost_within, loses_lock}
use Rattle.node_core.proofs.node.NodeCore.lose_lock.Goals as goal

pub invariant_of-self : goal.invariant_of-self
invariant_of-self g c =
    let found = same_found _ c.args.self.now c.args.holder.now (as_call c.in-Some.call.now) c.self.view_is
    c.in-Some.ensures.call in
    whole_stood _ c.args.self.now c.in-Some.call.now c.args.holder.now c.lose.new.self
    (lost c.args.gone.now) c.self.view_is found c.lose.ensures.calls c.self.invariant
    c.lose.ensures.node
    (lost_within _ c.args.self.now c.in-Some.call.now c.in-Asking.field-0 c.args.gone.now c.self.view_is c.in-Asking.is
    (found_within _ c.args.self.now c.args.holder.now (Some c.in-Some.call.now) c.self.view_is c.self.invariant found))

pub returns-clause-turn : goal.returns-clause-turn
returns-clause-turn g c =
    let found = same_found _ c.args.self.now c.args.holder.now (as_call c.in-Some.call.now) c.self.view_is
    c.in-Some.ensures.call in
    loses_lock _ c.args.self.now c.end_lock.new.self c.args.turn.now c.end_lock.new.turn c.in-Some.call.now
    c.args.holder.now c.in-Asking.field-0 c.args.gone.now c.lose.new.self c.self.view_is
    (found_is c.args.holder.now _ (as_call c.in-Some.call.now) found) found c.in-Asking.is c.lose.ensures.calls
    c.end_lock.ensures.turn
