use Rattle.std.proofs.lemmas.Result.{MatchResult-from_err}
use Rattle.node_port.specs.Commands.{Says, SaysNothing}
use Rattle.node_port.proofs.Told.{no_node, no_started}
use Rattle.node_port.proofs.commands.read_started.Goals as goal

pub returns-in_err-parse_node : goal.returns-in_err-parse_node
returns-in_err-parse_node c = λ reader bytes is.
    MatchResult-from_err c.from_residual.result (Says reader bytes) (λ _. SaysNothing bytes) c.from_residual.ensures.0
    (λ _. no_started bytes c.args.text.now is (no_node c.args.text.now c.in_err-parse_node.field-0.0 c.in_err-parse_node.ensures))
