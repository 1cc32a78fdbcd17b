use Rattle.node_port.proofs.Told.{uncut_tag, no_tag}
use Rattle.node_port.proofs.commands.split_tag.Goals as goal

pub returns-in_err-tag : goal.returns-in_err-tag
returns-in_err-tag c = rw c.from_residual.ensures (uncut_tag c.args.text.now c.in_err-tag.ensures)

pub returns-in_err-parse_number : goal.returns-in_err-parse_number
returns-in_err-parse_number c =
    rw c.from_residual-in_err-parse_number.ensures
    (no_tag c.args.text.now c.in_ok-tag.tag.now c.in_ok-tag.rest.now c.in_ok-tag.ensures c.in_err-parse_number.ensures)
