use Rattle.node_port.proofs.Told.{begin_said, unread_begin}
use Rattle.node_port.proofs.commands.says_who_left.Goals as goal

pub returns-in-Ok : goal.returns-in-Ok
returns-in-Ok c = λ bytes kept.
    let t = c.in-Ok.ensures bytes kept in begin_said bytes c.in-Ok.text.now c.read_beginning.result t.1 t.0 c.read_beginning.ensures

pub returns-in-Err : goal.returns-in-Err
returns-in-Err c = λ bytes kept. unread_begin bytes _ (c.in-Err.ensures bytes kept)
