use Rattle.node_core.proofs.Locking.{whole_taken}
use Rattle.node_core.proofs.node.NodeCore.end_call.Goals as goal

pub invariant_of-self : goal.invariant_of-self
invariant_of-self g c = whole_taken _ c.take.new.self c.args.holder.now c.self.invariant c.take.ensures.node
    c.take.ensures.calls
