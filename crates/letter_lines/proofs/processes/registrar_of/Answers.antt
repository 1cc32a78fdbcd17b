use Rattle.term.proofs.OneNode.{exact_nodes}
use Rattle.letter_lines.proofs.processes.registrar_of.Goals as goal

pub returns-in-Err : goal.returns-in-Err
returns-in-Err c = λ n s. exact_nodes.never_both c.args.node.now n c.in-Err.field-0 s c.in-Err.ensures
