use Rattle.node_port.proofs.Digits.{nought}
use Rattle.node_port.proofs.numbers.parse_number.Goals as goal

pub returns-in-text : goal.returns-in-text
returns-in-text c = nought c.args.digits.now c.in-text.is
