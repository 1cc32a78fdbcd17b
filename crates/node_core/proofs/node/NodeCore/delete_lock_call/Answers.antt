use Rattle.std.proofs.Common.{refl}
use Rattle.node_events.specs.declared.events.Call.TheVariants.{DelLock}
use Rattle.node_core.proofs.Calls.{deletes}
use Rattle.node_core.proofs.node.NodeCore.delete_lock_call.Goals as goal

pub returns-in-Ok-clause-turn : goal.returns-in-Ok-clause-turn
returns-in-Ok-clause-turn g c =
    deletes c.args.self.now c.new_call.new.self c.delete_lock.new.self c.args.turn.now c.delete_lock.new.turn
    c.in_ok-call.call c.args.holder.now c.args.id.now c.args.nodes.now _ c.in_ok-call.ensures.state
    c.in_ok-call.ensures.call (DelLock c.args.holder.now c.args.id.now c.args.nodes.now) refl refl
    c.requires.accepted c.in-Ok.ensures.turn
