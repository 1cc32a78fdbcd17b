use Rattle.std.proofs.Common.{Some, refl, sym}
use Rattle.lock_calls.specs.Calls.{as_call}
use Rattle.node_core.proofs.Rounds.{granted_within}
use Rattle.node_core.proofs.Locking.{found_within, round_within}
use Rattle.node_core.proofs.CallEnds.{same_found, goes_on, ends_held, ends_failed}
use Rattle.node_core.proofs.node.NodeCore.end_lock.Goals as goal

pub returns-then-not-is_over-clause-turn : goal.returns-then-not-is_over-clause-turn
returns-then-not-is_over-clause-turn g c =
    let found = same_found _ c.args.self.now c.args.holder.now (as_call c.in-Some.call.now) c.self.view_is
    c.in-Some.ensures.call in
    goes_on c.args.self.now c.args.turn.now c.in-Some.call.now c.args.holder.now c.in-Asking.round c.is_over.result
    found c.in-Asking.is
    (round_within c.args.self.now.world c.in-Some.call.now c.in-Asking.round c.in-Asking.round c.in-Asking.is refl
    (found_within _ c.args.self.now c.args.holder.now (Some c.in-Some.call.now) c.self.view_is c.self.invariant found))
    c.is_over.ensures.protocol c.if-not-is_over.true

pub give_lock-requires-clause-within : goal.give_lock-requires-clause-within
give_lock-requires-clause-within g c =
    granted_within c.args.self.now.world c.asked.result c.in-GiveBack.granted c.in-Asking.round c.finish.result
    (round_within c.args.self.now.world c.in-Some.call.now c.in-Asking.round c.in-Asking.round c.in-Asking.is refl
    (found_within _ c.args.self.now c.args.holder.now (Some c.in-Some.call.now) c.self.view_is c.self.invariant
    (same_found _ c.args.self.now c.args.holder.now (as_call c.in-Some.call.now) c.self.view_is c.in-Some.ensures.call)))
    c.finish.ensures.value c.in-GiveBack.is

pub returns-in-Held-clause-turn : goal.returns-in-Held-clause-turn
returns-in-Held-clause-turn g c =
    let found = same_found _ c.args.self.now c.args.holder.now (as_call c.in-Some.call.now) c.self.view_is
    c.in-Some.ensures.call in
    ends_held c.args.self.now c.args.turn.now c.in-Some.call.now c.args.holder.now c.in-Asking.round c.is_over.result
    found c.in-Asking.is
    (round_within c.args.self.now.world c.in-Some.call.now c.in-Asking.round c.in-Asking.round c.in-Asking.is refl
    (found_within _ c.args.self.now c.args.holder.now (Some c.in-Some.call.now) c.self.view_is c.self.invariant found))
    c.is_over.ensures.protocol c.finish.result c.asked.result c.asked.ensures.value c.asked.ensures.protocol
    c.finish.ensures.protocol c.close_of.new.self c.close_of.new.turn c.if-not-is_over.false c.in-Held.is
    (c.close_of.ensures.turn (as_call c.in-Some.call.now) (sym found))

pub returns-in-GiveBack-clause-turn : goal.returns-in-GiveBack-clause-turn
returns-in-GiveBack-clause-turn g c =
    let found = same_found _ c.args.self.now c.args.holder.now (as_call c.in-Some.call.now) c.self.view_is
    c.in-Some.ensures.call in
    ends_failed c.args.self.now c.args.turn.now c.in-Some.call.now c.args.holder.now c.in-Asking.round c.is_over.result
    found c.in-Asking.is
    (round_within c.args.self.now.world c.in-Some.call.now c.in-Asking.round c.in-Asking.round c.in-Asking.is refl
    (found_within _ c.args.self.now c.args.holder.now (Some c.in-Some.call.now) c.self.view_is c.self.invariant found))
    c.is_over.ensures.protocol c.finish.result c.asked.result c.asked.ensures.value c.asked.ensures.protocol
    c.finish.ensures.protocol c.refuse_lock.new.self c.give_lock.new.turn c.refuse_lock.new.turn
    c.in-GiveBack.granted c.if-not-is_over.false c.in-GiveBack.is c.give_lock.ensures.turn
    (c.refuse_lock.ensures.turn (as_call c.in-Some.call.now) (sym found))
