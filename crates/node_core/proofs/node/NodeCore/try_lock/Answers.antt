use Rattle.std.proofs.lemmas.Result.{on_ok_weaker}
use Rattle.node_core.proofs.Locking.{tries_none, tries_some}
use Rattle.node_core.proofs.node.NodeCore.try_lock.Goals as goal

pub returns-then-is_empty-clause-turn : goal.returns-then-is_empty-clause-turn
returns-then-is_empty-clause-turn g c =
    tries_none c.args.self.now c.args.turn.now c.args.call c.targets-nodes.result c.is_empty.result
    c.targets-nodes.ensures.within c.targets-nodes.ensures.asked c.is_empty.ensures c.close_call.new.self
    c.close_call.new.turn c.if-is_empty.true c.close_call.ensures.turn

pub returns-clause-turn : goal.returns-clause-turn
returns-clause-turn g c =
    on_ok_weaker c.ask_lock.result
    (tries_some c.args.self.now c.args.turn.now c.args.call c.targets-nodes.result c.is_empty.result
    c.targets-nodes.ensures.within c.targets-nodes.ensures.asked c.is_empty.ensures c.ask_lock.new.self
    c.ask_lock.new.turn c.if-is_empty.false)
    c.ask_lock.ensures.turn
