use Rattle.std.proofs.Common.{sym, subst, ◌∙◌}
use Rattle.lock_calls.specs.Calls.{as_call}
use Rattle.node_core.specs.CoreState.{CoreState, IsWithin}
use Rattle.node_core.proofs.Locking.{begun_within}
use Rattle.node_core.proofs.CallEnds.{same_found}
use Rattle.node_core.proofs.CallsOf.{waiting_is, retries_none, retries_some, whole_again}
use Rattle.node_core.proofs.node.NodeCore.retry_lock.Goals as goal

pub invariant_of-self : goal.invariant_of-self
invariant_of-self g c =
    whole_again _ c.args.self.now c.in-Some.call.now c.args.holder.now c.ask_again.new.self c.begin.result
    c.self.view_is
    (same_found _ c.args.self.now c.args.holder.now (as_call c.in-Some.call.now) c.self.view_is
    c.in-Some.ensures.call) c.ask_again.ensures.calls c.ask_again.ensures.node
    (begun_within c.self.inside.world c.targets-nodes.result c.begin.result c.begin.ensures.nodes
    (subst (λ (h : CoreState). IsWithin h.world c.targets-nodes.result) (sym c.self.view_is)
    c.targets-nodes.ensures.within)) c.self.invariant

pub returns-then-is_empty-clause-turn : goal.returns-then-is_empty-clause-turn
returns-then-is_empty-clause-turn g c =
    let found = same_found _ c.args.self.now c.args.holder.now (as_call c.in-Some.call.now) c.self.view_is
    c.in-Some.ensures.call in
    retries_none c.args.self.now c.args.turn.now c.in-Some.call.now c.args.holder.now c.targets-nodes.result
    c.is_empty.result c.targets-nodes.ensures.within found
    (waiting_is c.in-Some.call.now.phase (sym c.is_waiting.ensures ∙ c.if-not-is_waiting.false))
    c.targets-nodes.ensures.asked c.is_empty.ensures c.close_of.new.self c.close_of.new.turn c.if-is_empty.true
    (c.close_of.ensures.turn (as_call c.in-Some.call.now) (sym found))

pub returns-clause-turn : goal.returns-clause-turn
returns-clause-turn g c =
    let found = same_found _ c.args.self.now c.args.holder.now (as_call c.in-Some.call.now) c.self.view_is
    c.in-Some.ensures.call in
    retries_some c.args.self.now c.args.turn.now c.in-Some.call.now c.args.holder.now c.targets-nodes.result
    c.is_empty.result c.targets-nodes.ensures.within found
    (waiting_is c.in-Some.call.now.phase (sym c.is_waiting.ensures ∙ c.if-not-is_waiting.false))
    c.targets-nodes.ensures.asked c.is_empty.ensures _ c.send.new.self c.ask_again.new.self c.boss.result
    c.lock_letter.result c.begin.result c.self.view_is c.if-is_empty.false c.boss.ensures.protocol
    c.lock_letter.ensures.says c.begin.ensures.protocol c.send.ensures.made c.ask_again.ensures.calls
