use Rattle.std.proofs.Common.{ap, sym, ◌∙◌}
use Rattle.std.specs.Option.{option_map}
use Rattle.lock_calls.specs.Calls.{as_call}
use Rattle.node_core.proofs.Locking.{whole_taken}
use Rattle.node_core.proofs.CallsOf.{closes_of}
use Rattle.node_core.proofs.node.NodeCore.close_of.Goals as goal

pub invariant_of-self : goal.invariant_of-self
invariant_of-self g c = whole_taken _ c.take.new.self c.args.holder.now c.self.invariant c.take.ensures.node
    c.take.ensures.calls

pub invariant_of-self-in_default : goal.invariant_of-self-in_default
invariant_of-self-in_default g c = whole_taken _ c.take.new.self c.args.holder.now c.self.invariant c.take.ensures.node
    c.take.ensures.calls

pub returns-in-Some-clause-turn : goal.returns-in-Some-clause-turn
returns-in-Some-clause-turn g c = λ d found.
    closes_of _ c.args.self.now c.close_call.new.self c.args.turn.now c.close_call.new.turn c.in-Some.call
    c.args.holder.now c.args.granted d c.take.new.self c.self.view_is c.take.ensures.calls
    (sym (ap (option_map as_call) c.in-Some.is) ∙ c.take.ensures.call) found c.close_call.ensures.turn
