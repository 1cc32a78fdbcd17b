use Rattle.node_port.proofs.Playing.{line_waits}
use Rattle.node_port.proofs.running.do_line.Goals as goal

pub returns : goal.returns
returns c = λ bytes k.
    line_waits bytes c.args.port.now c.take_line.new.port c.in_ok-standing.standing c.show_waiting.new.self c.show_waiting.ensures.stand
    c.in_ok-show_waiting.ensures.shown (c.in_ok-standing.ensures bytes k)
