use Rattle.std.proofs.Common.{arith}
use Rattle.node_port.proofs.Cuts.{cut_text}
use Rattle.node_port.proofs.commands.cut.Goals as goal

pub returns : goal.returns
returns c = cut_text c.args.text.now c.split_once.result (c.split_once.ensures.byte (omega arith) (λ w o h. h))
