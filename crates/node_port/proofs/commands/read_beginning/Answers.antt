use Rattle.node_port.proofs.Told.{other_begin}
use Rattle.node_port.proofs.commands.read_beginning.Goals as goal

pub returns-in_err-rest : goal.returns-in_err-rest
returns-in_err-rest c = rw c.from_residual.ensures (other_begin c.args.text.now c.in_err-rest.ensures)

pub returns : goal.returns
returns c = c.read_left.ensures c.args.text.now c.in_ok-rest.ensures
