use Rattle.node_core.proofs.Whole.{whole_watching}
use Rattle.node_core.proofs.Exits.{whole_exited, exits}
use Rattle.node_core.proofs.Rooms.{reserved}
use Rattle.node_core.proofs.node.NodeCore.exit.Goals as goal

pub invariant_of-self : goal.invariant_of-self
invariant_of-self g c = whole_watching _ c.exit.new.self c.self.invariant c.exit.ensures.node
    (c.exit.ensures.suspected _ c.self.invariant.suspected)

pub invariant_of-self-2 : goal.invariant_of-self-2
invariant_of-self-2 g c = whole_exited _ c.exit.new.self c.take.new.self c.args.process.now c.self.invariant
    c.exit.ensures.node c.exit.ensures.suspected c.take.ensures.node c.take.ensures.calls

pub returns-clause-turn : goal.returns-clause-turn
returns-clause-turn g c =
    reserved c.reserve.ensures.made
    (exits c.args.self.now _ c.exit.new.self c.take.new.self c.reserve.new.self _ _ c.args.process.now c.copy.result
    c.copy-2.result c.self.invariant c.self.view_is c.send_all.ensures.set c.in-Ok.ensures.ok c.take.ensures.calls
    c.copy.ensures c.copy-2.ensures c.enter.ensures.made c.send_all.ensures.letters)
