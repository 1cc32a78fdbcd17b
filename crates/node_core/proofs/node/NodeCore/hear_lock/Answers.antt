use Rattle.std.proofs.Common.{Some, refl, sym, ◌∙◌}
use Rattle.lock_calls.specs.Calls.{as_call}
use Rattle.lock_calls.specs.Standing.{answered}
use Rattle.node_core.proofs.Locking.{found_within, round_within}
use Rattle.node_core.proofs.CallEnds.{same_found, found_is, whole_stood, answer_within, hears_lock}
use Rattle.node_core.proofs.node.NodeCore.hear_lock.Goals as goal

pub ask_rest-requires-clause-within : goal.ask_rest-requires-clause-within
ask_rest-requires-clause-within g c =
    round_within c.args.self.now.world c.in-Some.call.now c.in-Asking.round c.in-Asking.round c.in-Asking.is refl
    (found_within _ c.args.self.now c.args.holder.now (Some c.in-Some.call.now) c.self.view_is c.self.invariant
    (same_found _ c.args.self.now c.args.holder.now (as_call c.in-Some.call.now) c.self.view_is c.in-Some.ensures.call))

pub invariant_of-self : goal.invariant_of-self
invariant_of-self g c =
    let found = same_found _ c.args.self.now c.args.holder.now (as_call c.in-Some.call.now) c.self.view_is
    c.in-Some.ensures.call in
    whole_stood _ c.args.self.now c.in-Some.call.now c.args.holder.now c.answer.new.self
    (answered c.args.from.now c.args.granted) c.self.view_is found c.answer.ensures.calls c.self.invariant
    c.answer.ensures.node
    (answer_within _ c.args.self.now c.in-Some.call.now c.in-Asking.round c.args.from.now c.args.granted
    c.self.view_is c.in-Asking.is (sym c.owes.ensures ∙ c.if-not-owes.false)
    (found_within _ c.args.self.now c.args.holder.now (Some c.in-Some.call.now) c.self.view_is c.self.invariant found))

pub returns-clause-turn : goal.returns-clause-turn
returns-clause-turn g c =
    let found = same_found _ c.args.self.now c.args.holder.now (as_call c.in-Some.call.now) c.self.view_is
    c.in-Some.ensures.call in
    hears_lock _ c.args.self.now c.end_lock.new.self c.args.turn.now c.ask_rest.new.turn c.end_lock.new.turn
    c.in-Some.call.now c.args.holder.now c.in-Asking.round c.args.from.now c.args.granted _ c.answer.new.self
    c.self.view_is (found_is c.args.holder.now _ (as_call c.in-Some.call.now) found) found c.in-Asking.is
    (sym c.owes.ensures ∙ c.if-not-owes.false) c.lock_letter.ensures.says c.ask_rest.ensures.turn c.answer.ensures.calls
    c.end_lock.ensures.turn
