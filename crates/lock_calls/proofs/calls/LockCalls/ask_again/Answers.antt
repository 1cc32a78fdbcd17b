use Rattle.std.proofs.Common.{refl, ap}
use Rattle.locker.specs.RoundState.{seen}
use Rattle.lock_calls.specs.Standing.{asking_again}
use Rattle.lock_calls.proofs.Standing.{becomes-other, becomes-absent, becomes-filed, becomes-seen}
use Rattle.lock_calls.proofs.calls.LockCalls.ask_again.Goals as goal

pub returns-then-ne-clause-calls : goal.returns-then-ne-clause-calls
returns-then-ne-clause-calls c =
    becomes-other c.self.inside.node c.self.inside.calls.entries c.args.self.now _ c.args.holder.now
    (asking_again (seen c.args.round)) c.self.view_is c.holder.view_is c.self.invariant.of c.if-ne.ensures

pub returns-in_default-clause-calls : goal.returns-in_default-clause-calls
returns-in_default-clause-calls c =
    becomes-absent c.self.inside.node c.self.inside.calls.entries c.args.self.now _ c.args.holder.now
    (asking_again (seen c.args.round)) c.self.view_is c.holder.view_is c.self.invariant.of c.if-ne.ensures
    c.in_default.ensures.value _ (ap (λ m. m.entries) c.get_mut.follows.holds-at-none)

pub invariant_of-self-2 : goal.invariant_of-self-2
invariant_of-self-2 c =
    becomes-filed c.self.inside.node c.self.inside.calls.entries c.args.self.now _ c.args.holder.now
    (asking_again (seen c.args.round)) c.self.view_is c.holder.view_is c.self.invariant.of c.self.invariant.rising
    c.if-ne.ensures (λ x. refl) c.ask_again.new.self _ c.in-Some.ensures.value c.ask_again.ensures
    _ (c.get_mut.follows.holds c.ask_again.new.self).0 _ refl

pub returns-clause-calls : goal.returns-clause-calls
returns-clause-calls c =
    becomes-seen c.self.inside.node c.self.inside.calls.entries c.args.self.now _ c.args.holder.now
    (asking_again (seen c.args.round)) c.self.view_is c.holder.view_is c.self.invariant.of c.self.invariant.rising
    c.if-ne.ensures (λ x. refl) c.ask_again.new.self _ c.in-Some.ensures.value c.ask_again.ensures
    _ (c.get_mut.follows.holds c.ask_again.new.self).0
