use Rattle.node_core.proofs.Opening.{opens_at, nobody_left}
use Rattle.node_core.proofs.node.NodeCore.new.Goals as goal

pub opened-requires-clause-left : goal.opened-requires-clause-left
opened-requires-clause-left g c = nobody_left c.args.world.now c.empty.result c.empty.ensures c.requires.first

pub returns-clause-opening : goal.returns-clause-opening
returns-clause-opening g c = λ joined.
    opens_at c.opened.result c.args.node c.args.world.now c.args.members.now c.empty.result c.args.joined c.empty.ensures
    c.opened.ensures c.requires.own joined
