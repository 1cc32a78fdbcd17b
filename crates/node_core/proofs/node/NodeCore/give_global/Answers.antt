use Rattle.node_core.proofs.Rules.{gives_global}
use Rattle.node_core.proofs.node.NodeCore.give_global.Goals as goal

pub returns-clause-turn : goal.returns-clause-turn
returns-clause-turn g c =
    gives_global c.args.self.now c.args.turn.now c.send_all.new.self c.args.nodes.now c.lock_back.result
    c.send_all.ensures.set c.requires.within
    c.lock_back.ensures.says c.send_all.ensures.letters
