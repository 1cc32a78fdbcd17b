use Rattle.node_core.proofs.Rules.{finishes}
use Rattle.node_core.proofs.node.NodeCore.finish.Goals as goal

pub returns-clause-turn : goal.returns-clause-turn
returns-clause-turn g c =
    finishes _ c.args.self.now c.args.turn.now _ c.give_global.new.turn c.finish.new.self c.args.asked.now
    c.beyond.result _ c.self.view_is c.finish.ensures c.beyond.ensures c.answer_op.ensures.turn
    c.give_global.ensures.turn
