use Rattle.std.proofs.Common.{refl}
use Rattle.node_events.specs.declared.events.Call.TheVariants.{SetLock}
use Rattle.node_core.proofs.Calls.{sets}
use Rattle.node_core.proofs.node.NodeCore.set_lock_call.Goals as goal

pub returns-in-Ok-clause-turn : goal.returns-in-Ok-clause-turn
returns-in-Ok-clause-turn g c =
    sets c.args.self.now c.new_call.new.self c.try_lock.new.self c.args.turn.now c.try_lock.new.turn c.in_ok-call.call
    c.args.holder.now c.args.id.now c.args.nodes.now c.args.retries c.in_ok-call.ensures.state
    c.in_ok-call.ensures.call (SetLock c.args.holder.now c.args.id.now c.args.nodes.now c.args.retries) refl
    c.requires.accepted c.in-Ok.ensures.turn
