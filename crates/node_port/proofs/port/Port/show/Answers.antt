use Rattle.node_port.proofs.Showing.{shows_each}
use Rattle.node_port.proofs.port.Port.show.Goals as goal

pub returns : goal.returns
returns c = shows_each c.show_replies.result c.args.self.now c.show_update.new.self c.show_new_state.new.self c.show_replies.new.self
    c.in_ok-show_update.ensures.still c.in_ok-show_update.ensures.all c.in_ok-show_new_state.ensures.still c.show_new_state.ensures.node
    c.show_replies.ensures.still c.show_replies.ensures.all c.show_replies.ensures.owed
