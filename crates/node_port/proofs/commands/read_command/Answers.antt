use Rattle.std.specs.Prelude.{option_copied}
use Rattle.node_port.specs.Asking.{reads_as}
use Rattle.node_port.proofs.Told.{read_said}
use Rattle.node_port.proofs.commands.read_command.Goals as goal

pub returns-in-Ok : goal.returns-in-Ok
returns-in-Ok c = λ bytes kept.
    let t = c.in-Ok.ensures bytes kept in
    read_said (reads_as c.args.node.now (option_copied c.args.own)) bytes c.in-Ok.text.now c.read_text.result t.1 t.0 c.read_text.ensures
