use Rattle.std.proofs.Common.{refl, ap}
use Rattle.protocol_model.specs.Node.{LockPhase}
use Rattle.lock_calls.specs.Calls.{as_call}
use Rattle.lock_calls.specs.Standing.{standing}
use Rattle.lock_calls.proofs.Standing.{becomes-other, becomes-absent, becomes-filed, becomes-seen}
use Rattle.lock_calls.proofs.calls.LockCalls.wait.Goals as goal

pub returns-then-ne-clause-calls : goal.returns-then-ne-clause-calls
returns-then-ne-clause-calls c =
    becomes-other c.self.inside.node c.self.inside.calls.entries c.args.self.now _ c.args.holder.now
    (standing (λ _. LockPhase.Waiting)) c.self.view_is c.holder.view_is c.self.invariant.of c.if-ne.ensures

pub returns-in_default-clause-calls : goal.returns-in_default-clause-calls
returns-in_default-clause-calls c =
    becomes-absent c.self.inside.node c.self.inside.calls.entries c.args.self.now _ c.args.holder.now
    (standing (λ _. LockPhase.Waiting)) c.self.view_is c.holder.view_is c.self.invariant.of c.if-ne.ensures
    c.in_default.ensures.value _ (ap (λ m. m.entries) c.get_mut.follows.holds-at-none)

pub invariant_of-self-2 : goal.invariant_of-self-2
invariant_of-self-2 c =
    becomes-filed c.self.inside.node c.self.inside.calls.entries c.args.self.now _ c.args.holder.now
    (standing (λ _. LockPhase.Waiting)) c.self.view_is c.holder.view_is c.self.invariant.of c.self.invariant.rising
    c.if-ne.ensures (λ x. refl) c.wait.new.self _ c.in-Some.ensures.value (ap as_call c.wait.ensures)
    _ (c.get_mut.follows.holds c.wait.new.self).0 _ refl

pub returns-clause-calls : goal.returns-clause-calls
returns-clause-calls c =
    becomes-seen c.self.inside.node c.self.inside.calls.entries c.args.self.now _ c.args.holder.now
    (standing (λ _. LockPhase.Waiting)) c.self.view_is c.holder.view_is c.self.invariant.of c.self.invariant.rising
    c.if-ne.ensures (λ x. refl) c.wait.new.self _ c.in-Some.ensures.value (ap as_call c.wait.ensures)
    _ (c.get_mut.follows.holds c.wait.new.self).0
