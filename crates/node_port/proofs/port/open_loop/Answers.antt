use Rattle.std.proofs.Common.{◌≡◌, ℕ, List, sym, subst, ap, ◌∙◌}
use Rattle.term.specs.NodeSets.{set_of, with_older}
use Rattle.node_loop.specs.NodeCoreState.{HaveLeft}
use Rattle.node_port.proofs.Beginnings.{knows_itself, have_left, stays}
use Rattle.node_port.proofs.port.open_loop.Goals as goal

pub come_back-requires-clause-known : goal.come_back-requires-clause-known
come_back-requires-clause-known c =
    rw (c.copy.ensures, c.world_of-world.ensures)
    (knows_itself c.args.node.now c.args.names.now c.args.left.now c.requires.first c.requires.known)

pub come_back-requires-clause-left : goal.come_back-requires-clause-left
come_back-requires-clause-left c =
    rw c.world_of-world.ensures (have_left c.args.node.now c.args.names.now c.args.left.now c.requires.first c.requires.fit)

pub come_back-requires-clause-stays : goal.come_back-requires-clause-stays
come_back-requires-clause-stays c =
    rw c.copy.ensures (stays c.args.node.now c.args.names.now c.args.left.now c.requires.first c.requires.fit)
