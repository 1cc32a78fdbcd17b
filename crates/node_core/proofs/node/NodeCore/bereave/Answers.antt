use Rattle.node_events.specs.Seen.{unnumbered}
use Rattle.node_core.proofs.Leaving.{bereaves}
use Rattle.node_core.proofs.node.NodeCore.bereave.Goals as goal

pub returns-clause-turn : goal.returns-clause-turn
returns-clause-turn g c = λ other.
    bereaves c.args.self.now c.take_in.new.self c.lose_contact.new.self c.lose_current.new.self c.lose_node.new.self
    c.args.turn.now c.take_in.new.turn c.lose_contact.new.turn c.lose_current.new.turn c.lose_node.new.turn
    c.args.gone.now unnumbered c.take_in.ensures.turn c.lose_contact.ensures.turn
    c.in_ok-lose_current.ensures.turn
    c.lose_node.ensures.turn
