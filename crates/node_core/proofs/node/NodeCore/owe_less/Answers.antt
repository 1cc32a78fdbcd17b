use Rattle.std.proofs.Common.{Some, sym, subst, ◌≡◌, ◌∙◌}
use Rattle.std.specs.Prelude.{All}
use Rattle.lock_calls.specs.Calls.{as_call}
use Rattle.lock_calls.specs.LockCallsState.{seen}
use Rattle.lock_calls.specs.Standing.{given_up}
use Rattle.node_core.specs.CoreState.{CoreState}
use Rattle.node_core.proofs.Locking.{found_within, found_own}
use Rattle.node_core.proofs.CallEnds.{same_found, found_is, whole_stood, give_up_within, owes_less}
use Rattle.node_core.proofs.node.NodeCore.owe_less.Goals as goal

pub invariant_of-self : goal.invariant_of-self
invariant_of-self g c =
    let found = same_found _ c.args.self.now c.args.holder.now (as_call c.in-Some.call.now) c.self.view_is
    c.in-Some.ensures.call in
    whole_stood _ c.args.self.now c.in-Some.call.now c.args.holder.now c.give_up.new.self
    (given_up c.args.from.now) c.self.view_is found c.give_up.ensures.calls c.self.invariant
    c.give_up.ensures.node
    (give_up_within _ c.args.self.now c.in-Some.call.now c.in-Deleting.owing c.args.from.now
    c.self.view_is c.in-Deleting.is
    (found_within _ c.args.self.now c.args.holder.now (Some c.in-Some.call.now) c.self.view_is c.self.invariant found))

pub returns-clause-turn : goal.returns-clause-turn
returns-clause-turn g c =
    let found = same_found _ c.args.self.now c.args.holder.now (as_call c.in-Some.call.now) c.self.view_is
    c.in-Some.ensures.call in
    let own = found_own _ c.args.self.now c.args.holder.now (Some c.in-Some.call.now) c.self.view_is c.self.invariant
    c.in-Some.ensures.ordered found in
    owes_less _ c.args.self.now c.end_deletion.new.self c.args.turn.now c.end_deletion.new.turn
    c.in-Some.call.now c.args.holder.now c.args.from.now c.args.self.now.name c.in-Deleting.owing c.give_up.new.self
    c.self.view_is (found_is c.args.holder.now _ (as_call c.in-Some.call.now) found) found c.in-Deleting.is
    (sym c.contains.ensures ∙ c.if-not-contains.false) own.0
    (subst (λ (h : CoreState). All (λ d. d.holder.node ≡ h.name) (seen h.calls)) c.self.view_is
    (subst (λ n. All (λ d. d.holder.node ≡ n) (seen c.self.inside.calls)) c.self.invariant.calls
    c.in-Some.ensures.ordered.own)) c.give_up.ensures.calls
    c.end_deletion.ensures.turn
