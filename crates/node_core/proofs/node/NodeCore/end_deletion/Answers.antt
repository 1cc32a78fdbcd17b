use Rattle.std.proofs.Common.{Some, sym}
use Rattle.lock_calls.specs.Calls.{as_call}
use Rattle.node_core.proofs.Locking.{found_within}
use Rattle.node_core.proofs.CallEnds.{same_found, deletion_goes_on, deletion_ends}
use Rattle.node_core.proofs.node.NodeCore.end_deletion.Goals as goal

pub returns-then-not-is_empty-clause-turn : goal.returns-then-not-is_empty-clause-turn
returns-then-not-is_empty-clause-turn g c =
    let found = same_found _ c.args.self.now c.args.holder.now (as_call c.in-Some.call.now) c.self.view_is
    c.in-Some.ensures.call in
    deletion_goes_on c.args.self.now c.args.turn.now c.in-Some.call.now c.args.holder.now c.in-Deleting.owing
    c.is_empty.result found c.in-Deleting.is c.is_empty.ensures
    (found_within _ c.args.self.now c.args.holder.now (Some c.in-Some.call.now) c.self.view_is c.self.invariant found)
    c.if-not-is_empty.true

pub returns-clause-turn : goal.returns-clause-turn
returns-clause-turn g c =
    let found = same_found _ c.args.self.now c.args.holder.now (as_call c.in-Some.call.now) c.self.view_is
    c.in-Some.ensures.call in
    deletion_ends c.args.self.now c.args.turn.now c.in-Some.call.now c.args.holder.now c.in-Deleting.owing
    c.is_empty.result found c.in-Deleting.is c.is_empty.ensures
    (found_within _ c.args.self.now c.args.holder.now (Some c.in-Some.call.now) c.self.view_is c.self.invariant found)
    c.close_of.new.self c.close_of.new.turn c.if-not-is_empty.false
    (c.close_of.ensures.turn (as_call c.in-Some.call.now) (sym found))
