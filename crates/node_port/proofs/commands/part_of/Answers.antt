use Rattle.node_port.proofs.Told.{no_part}
use Rattle.node_port.proofs.commands.part_of.Goals as goal

pub returns-in-Err : goal.returns-in-Err
returns-in-Err c = no_part c.parts_are_exact.ensures c.args.text.now c.in-Err.fault c.in-Err.ensures
