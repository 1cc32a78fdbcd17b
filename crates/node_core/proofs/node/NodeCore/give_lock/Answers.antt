use Rattle.node_core.proofs.Locking.{gives_lock}
use Rattle.node_core.proofs.node.NodeCore.give_lock.Goals as goal

pub returns-clause-turn : goal.returns-clause-turn
returns-clause-turn g c =
    let id = c.copy.ensures in let holder = c.copy-2.ensures in
    gives_lock c.args.self.now c.args.turn.now c.send_all.new.self c.args.call.now c.args.granted.now _
    c.send_all.ensures.set c.requires.within (cc (id, holder))
    c.send_all.ensures.letters
