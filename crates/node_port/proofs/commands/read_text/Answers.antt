use Rattle.std.proofs.Common.{option_copied, sym, subst}
use Rattle.node_port.specs.Asking.{reads_as}
use Rattle.node_port.specs.Commands.{Refuses}
use Rattle.node_port.proofs.commands.read_text.Goals as goal

pub returns-in-Ok-read_untagged : goal.returns-in-Ok-read_untagged
returns-in-Ok-read_untagged c = c.in-Ok-read_untagged.ensures (reads_as c.args.node.now (option_copied c.args.own))

pub returns-in-Err-read_untagged : goal.returns-in-Err-read_untagged
returns-in-Err-read_untagged c =
    subst (Refuses c.args.text.now) (sym c.refused_under-in-Err-read_untagged.ensures.tag)
    (c.in-None.ensures, c.in-Err-read_untagged.ensures (reads_as c.args.node.now (option_copied c.args.own)))
