use Rattle.node_port.proofs.Opening.{founder_shown}
use Rattle.node_port.proofs.running.open_founder.Goals as goal

pub returns : goal.returns
returns c =
    founder_shown c.args.node.now c.args.world.now c.in_ok-port.port c.show_state.new.self c.in_ok-port.ensures.opened c.in_ok-port.ensures.empty
    c.show_state.ensures.stand c.in_ok-show_state.ensures.shown
